use Rattle.std.proofs.Common.{true, false, subst, sym, refl, ◌∙◌, arith}
use Rattle.std.proofs.lemmas.List.{length-set}
use Rattle.vx_488.specs.declared.transfers.Transfer.TheVariants.{Got}
use Rattle.vx_488.specs.declared.asks.Ask.TheVariants as ask
use Rattle.vx_488.specs.Means.{Means, first_means}
use Rattle.vx_488.specs.Steps.{Went, Held}
use Rattle.vx_488.proofs.Laws.Gets.{gets-begin, gets-held, gets-end, gets-char, gets-next, gets-full, char-is}
use Rattle.vx_inst.specs.Behavior.{Behavior, seen}
use Rattle.vx_inst.specs.Laws.{InstGives}
use Rattle.vx_inst.specs.Runs.{GivesNext}
use Rattle.vx_inst.proofs.Laws.Runs.{Giving, meaning, meant_after, gives-steps, gives-path}
use Rattle.vx_inst.proofs.Instrument.give_many.Goals as goal

pub loop-got-init : goal.loop-got-init
loop-got-init g c = (first_means, gets-begin meaning (Giving GivesNext) c.args.stop c.args.room.now (g.Self.Instrument.behaves c.args.self.now, first_means))

pub returns-then-not-can_give-clause-gives : goal.returns-then-not-can_give-clause-gives
returns-then-not-can_give-clause-gives g c =
    let old : Behavior × Means = (g.Self.Instrument.behaves c.args.self.now, first_means) in
    let o = g.Self.Instrument.behaves c.loop-got.self in
    let m = c.loop-got.invariant.0 in
    gives-path GivesNext _ old (o, meant_after m (Held ask.Get))
    (gets-held meaning (Giving GivesNext) c.args.stop c.loop-got.got c.args.room.now c.loop-got.room old (o, m) c.loop-got.invariant.1 (omega arith)
    (o, meant_after m (Held ask.Get))
    (gives-steps GivesNext o o m (Held ask.Get) (sym c.if-not-can_give.ensures.can, refl))).walk

pub returns-then-end-clause-gives : goal.returns-then-end-clause-gives
returns-then-end-clause-gives g c =
    let old : Behavior × Means = (g.Self.Instrument.behaves c.args.self.now, first_means) in
    let o = g.Self.Instrument.behaves c.loop-got.self in
    let o' = g.Self.Instrument.behaves c.give-b.new.self in
    let m = c.loop-got.invariant.0 in
    let b = c.give-b.result.0 in
    let s = Went (Got b true) in
    let gave : GivesNext o s o' = (
      sym c.if-not-can_give.ensures.can,
      subst (λ e. InstGives (seen o) (record { value = b; end = e }) (seen o')) c.if-end.true c.give-b.ensures.gives,
      c.give-b.ensures.does,
      c.give-b.ensures.sound,
    ) in
    gives-path GivesNext _ old (o', meant_after m s)
    (gets-end meaning (Giving GivesNext) c.args.stop c.loop-got.got c.args.room.now c.loop-got.room old (o, m) c.loop-got.invariant.1 (omega arith)
    (o', meant_after m s) b (gives-steps GivesNext o o' m s gave)).walk

pub returns-then-end-clause-stops : goal.returns-then-end-clause-stops
returns-then-end-clause-stops g c =
    let old : Behavior × Means = (g.Self.Instrument.behaves c.args.self.now, first_means) in
    let o = g.Self.Instrument.behaves c.loop-got.self in
    let o' = g.Self.Instrument.behaves c.give-b.new.self in
    let m = c.loop-got.invariant.0 in
    let b = c.give-b.result.0 in
    let s = Went (Got b true) in
    let gave : GivesNext o s o' = (
      sym c.if-not-can_give.ensures.can,
      subst (λ e. InstGives (seen o) (record { value = b; end = e }) (seen o')) c.if-end.true c.give-b.ensures.gives,
      c.give-b.ensures.does,
      c.give-b.ensures.sound,
    ) in
    (gets-end meaning (Giving GivesNext) c.args.stop c.loop-got.got c.args.room.now c.loop-got.room old (o, m) c.loop-got.invariant.1 (omega arith)
    (o', meant_after m s) b (gives-steps GivesNext o o' m s gave)).stops

pub returns-then-eq-clause-gives : goal.returns-then-eq-clause-gives
returns-then-eq-clause-gives g c =
    let old : Behavior × Means = (g.Self.Instrument.behaves c.args.self.now, first_means) in
    let o = g.Self.Instrument.behaves c.loop-got.self in
    let o' = g.Self.Instrument.behaves c.give-b.new.self in
    let m = c.loop-got.invariant.0 in
    let b = c.give-b.result.0 in
    let s = Went (Got b false) in
    let gave : GivesNext o s o' = (
      sym c.if-not-can_give.ensures.can,
      subst (λ e. InstGives (seen o) (record { value = b; end = e }) (seen o')) c.if-end.false c.give-b.ensures.gives,
      c.give-b.ensures.does,
      c.give-b.ensures.sound,
    ) in
    gives-path GivesNext _ old (o', meant_after m s)
    (gets-char meaning (Giving GivesNext) c.args.stop c.loop-got.got c.args.room.now c.loop-got.room old (o, m) c.loop-got.invariant.1 (omega arith)
    (o', meant_after m s) b (char-is c.args.stop b ∙ sym c.if-eq.ensures) (gives-steps GivesNext o o' m s gave)).walk

pub returns-then-eq-clause-stops : goal.returns-then-eq-clause-stops
returns-then-eq-clause-stops g c =
    let old : Behavior × Means = (g.Self.Instrument.behaves c.args.self.now, first_means) in
    let o = g.Self.Instrument.behaves c.loop-got.self in
    let o' = g.Self.Instrument.behaves c.give-b.new.self in
    let m = c.loop-got.invariant.0 in
    let b = c.give-b.result.0 in
    let s = Went (Got b false) in
    let gave : GivesNext o s o' = (
      sym c.if-not-can_give.ensures.can,
      subst (λ e. InstGives (seen o) (record { value = b; end = e }) (seen o')) c.if-end.false c.give-b.ensures.gives,
      c.give-b.ensures.does,
      c.give-b.ensures.sound,
    ) in
    (gets-char meaning (Giving GivesNext) c.args.stop c.loop-got.got c.args.room.now c.loop-got.room old (o, m) c.loop-got.invariant.1 (omega arith)
    (o', meant_after m s) b (char-is c.args.stop b ∙ sym c.if-eq.ensures) (gives-steps GivesNext o o' m s gave)).stops

pub loop-got-preserved : goal.loop-got-preserved
loop-got-preserved g c =
    let old : Behavior × Means = (g.Self.Instrument.behaves c.args.self.now, first_means) in
    let o = g.Self.Instrument.behaves c.loop-got.self in
    let o' = g.Self.Instrument.behaves c.give-b.new.self in
    let m = c.loop-got.invariant.0 in
    let b = c.give-b.result.0 in
    let s = Went (Got b false) in
    let gave : GivesNext o s o' = (
      sym c.if-not-can_give.ensures.can,
      subst (λ e. InstGives (seen o) (record { value = b; end = e }) (seen o')) c.if-end.false c.give-b.ensures.gives,
      c.give-b.ensures.does,
      c.give-b.ensures.sound,
    ) in (
      meant_after m s,
      gets-next meaning (Giving GivesNext) c.args.stop c.loop-got.got c.args.room.now c.loop-got.room old (o, m) c.loop-got.invariant.1 (omega arith)
          (o', meant_after m s) b (length-set c.loop-got.room c.loop-got.got b) (char-is c.args.stop b ∙ sym c.if-eq.ensures) (gives-steps GivesNext o o' m s gave),
    )

pub returns-clause-gives : goal.returns-clause-gives
returns-clause-gives g c =
    let far = c.loop-got.invariant.1 in
    gives-path GivesNext _ (g.Self.Instrument.behaves c.args.self.now, first_means) (g.Self.Instrument.behaves c.loop-got.self, c.loop-got.invariant.0)
    (gets-full meaning (Giving GivesNext) c.args.stop c.loop-got.got c.args.room.now c.loop-got.room _ _ far (omega (arith, far.within, far.long))).walk
