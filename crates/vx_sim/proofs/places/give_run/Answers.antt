use Rattle.std.proofs.Common.{true, false, subst, sym, refl, ◌∙◌, arith}
use Rattle.std.proofs.lemmas.List.{length-set}
use Rattle.vx_488.specs.declared.transfers.Transfer.TheVariants.{Got}
use Rattle.vx_488.specs.declared.asks.Ask.TheVariants as ask
use Rattle.vx_488.specs.Means.{Means, first_means}
use Rattle.vx_488.specs.Steps.{Went, Held}
use Rattle.vx_488.proofs.Laws.Gets.{gets-begin, gets-held, gets-end, gets-char, gets-next, gets-full, char-is}
use Rattle.vx_sim.specs.Occupants.{Occupant, Table, GivesByte, GivesBy}
use Rattle.vx_inst.proofs.Laws.Runs.{Giving, meaning, meant_after, gives-steps, gives-path}
use Rattle.vx_sim.proofs.places.give_run.Goals as goal

pub loop-got-init : goal.loop-got-init
loop-got-init c = (first_means, gets-begin meaning (Giving GivesBy) c.args.stop c.args.room.now (Table c.args.table.now, first_means))

pub returns-then-not-can_give-clause-gives : goal.returns-then-not-can_give-clause-gives
returns-then-not-can_give-clause-gives c =
    let old : Occupant × Means = (Table c.args.table.now, first_means) in
    let o = Table c.loop-got.table in
    let m = c.loop-got.invariant.0 in
    gives-path GivesBy _ old (o, meant_after m (Held ask.Get))
    (gets-held meaning (Giving GivesBy) c.args.stop c.loop-got.got c.args.room.now c.loop-got.room old (o, m) c.loop-got.invariant.1 (omega arith) (o, meant_after m (Held ask.Get))
    (gives-steps GivesBy o o m (Held ask.Get) (sym c.if-not-can_give.ensures.can, refl))).walk

pub returns-then-end-clause-gives : goal.returns-then-end-clause-gives
returns-then-end-clause-gives c =
    let old : Occupant × Means = (Table c.args.table.now, first_means) in
    let o = Table c.loop-got.table in
    let o' = Table c.give-b.new.self in
    let m = c.loop-got.invariant.0 in
    let b = c.give-b.result.0 in
    let s = Went (Got b true) in
    gives-path GivesBy _ old (o', meant_after m s)
    (gets-end meaning (Giving GivesBy) c.args.stop c.loop-got.got c.args.room.now c.loop-got.room old (o, m) c.loop-got.invariant.1 (omega arith) (o', meant_after m s) b
    (gives-steps GivesBy o o' m s (sym c.if-not-can_give.ensures.can, subst (λ e. GivesByte (record { value = b; end = e }) o o') c.if-end.true (c.give-b.ensures.gives, c.give-b.ensures.rule)))).walk

pub returns-then-end-clause-stops : goal.returns-then-end-clause-stops
returns-then-end-clause-stops c =
    let old : Occupant × Means = (Table c.args.table.now, first_means) in
    let o = Table c.loop-got.table in
    let o' = Table c.give-b.new.self in
    let m = c.loop-got.invariant.0 in
    let b = c.give-b.result.0 in
    let s = Went (Got b true) in
    (gets-end meaning (Giving GivesBy) c.args.stop c.loop-got.got c.args.room.now c.loop-got.room old (o, m) c.loop-got.invariant.1 (omega arith) (o', meant_after m s) b
    (gives-steps GivesBy o o' m s (sym c.if-not-can_give.ensures.can, subst (λ e. GivesByte (record { value = b; end = e }) o o') c.if-end.true (c.give-b.ensures.gives, c.give-b.ensures.rule)))).stops

pub returns-then-eq-clause-gives : goal.returns-then-eq-clause-gives
returns-then-eq-clause-gives c =
    let old : Occupant × Means = (Table c.args.table.now, first_means) in
    let o = Table c.loop-got.table in
    let o' = Table c.give-b.new.self in
    let m = c.loop-got.invariant.0 in
    let b = c.give-b.result.0 in
    let s = Went (Got b false) in
    gives-path GivesBy _ old (o', meant_after m s)
    (gets-char meaning (Giving GivesBy) c.args.stop c.loop-got.got c.args.room.now c.loop-got.room old (o, m) c.loop-got.invariant.1 (omega arith) (o', meant_after m s) b
    (char-is c.args.stop b ∙ sym c.if-eq.ensures)
    (gives-steps GivesBy o o' m s (sym c.if-not-can_give.ensures.can, subst (λ e. GivesByte (record { value = b; end = e }) o o') c.if-end.false (c.give-b.ensures.gives, c.give-b.ensures.rule)))).walk

pub returns-then-eq-clause-stops : goal.returns-then-eq-clause-stops
returns-then-eq-clause-stops c =
    let old : Occupant × Means = (Table c.args.table.now, first_means) in
    let o = Table c.loop-got.table in
    let o' = Table c.give-b.new.self in
    let m = c.loop-got.invariant.0 in
    let b = c.give-b.result.0 in
    let s = Went (Got b false) in
    (gets-char meaning (Giving GivesBy) c.args.stop c.loop-got.got c.args.room.now c.loop-got.room old (o, m) c.loop-got.invariant.1 (omega arith) (o', meant_after m s) b
    (char-is c.args.stop b ∙ sym c.if-eq.ensures)
    (gives-steps GivesBy o o' m s (sym c.if-not-can_give.ensures.can, subst (λ e. GivesByte (record { value = b; end = e }) o o') c.if-end.false (c.give-b.ensures.gives, c.give-b.ensures.rule)))).stops

pub loop-got-preserved : goal.loop-got-preserved
loop-got-preserved c =
    let old : Occupant × Means = (Table c.args.table.now, first_means) in
    let o = Table c.loop-got.table in
    let o' = Table c.give-b.new.self in
    let m = c.loop-got.invariant.0 in
    let b = c.give-b.result.0 in
    let s = Went (Got b false) in (
      meant_after m s,
      gets-next meaning (Giving GivesBy) c.args.stop c.loop-got.got c.args.room.now c.loop-got.room old (o, m) c.loop-got.invariant.1 (omega arith) (o', meant_after m s) b
          (length-set c.loop-got.room c.loop-got.got b) (char-is c.args.stop b ∙ sym c.if-eq.ensures)
          (gives-steps GivesBy o o' m s (sym c.if-not-can_give.ensures.can, subst (λ e. GivesByte (record { value = b; end = e }) o o') c.if-end.false (c.give-b.ensures.gives, c.give-b.ensures.rule))),
    )

pub returns-clause-gives : goal.returns-clause-gives
returns-clause-gives c =
    let far = c.loop-got.invariant.1 in
    gives-path GivesBy _ (Table c.args.table.now, first_means) (Table c.loop-got.table, c.loop-got.invariant.0)
    (gets-full meaning (Giving GivesBy) c.args.stop c.loop-got.got c.args.room.now c.loop-got.room _ _ far (omega (arith, far.within, far.long))).walk

pub returns-clause-stops : goal.returns-clause-stops
returns-clause-stops c =
    let far = c.loop-got.invariant.1 in
    (gets-full meaning (Giving GivesBy) c.args.stop c.loop-got.got c.args.room.now c.loop-got.room _ _ far (omega (arith, far.within, far.long))).stops

pub returns-clause-within : goal.returns-clause-within
returns-clause-within c =
    let far = c.loop-got.invariant.1 in
    (gets-full meaning (Giving GivesBy) c.args.stop c.loop-got.got c.args.room.now c.loop-got.room _ _ far (omega (arith, far.within, far.long))).within

pub returns-clause-rest : goal.returns-clause-rest
returns-clause-rest c =
    let far = c.loop-got.invariant.1 in
    (gets-full meaning (Giving GivesBy) c.args.stop c.loop-got.got c.args.room.now c.loop-got.room _ _ far (omega (arith, far.within, far.long))).rest
