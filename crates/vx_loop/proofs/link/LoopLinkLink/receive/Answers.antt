use Rattle.std.proofs.Common.{rules, [], Some, drop, take, refl, sym, ap, subst, ◌∙◌, arith}
use Rattle.std.proofs.lemmas.List.{drop_all}
use Rattle.vx_rules.specs.State.{pending_at}
use Rattle.vx_loop.specs.LoopState.{LoopState}
use Rattle.vx_loop.specs.Standing.{LoopStandsFor, LoopGoesOn, LivesAlike}
use Rattle.vx_loop.proofs.Looking.{goes-gives, goes-stays, stands-goes, gives-goes, waits-goes, waits-alike, vacant-goes}
use Rattle.vx_loop.proofs.link.LoopLinkLink.receive.Goals as goal

-- there is no gateway
pub returns-in_default-clause-stayed : goal.returns-in_default-clause-stayed
returns-in_default-clause-stayed g c =
    let new : LoopState = record { served = c.self.inside.served; receive_faults = c.self.inside.receive_faults; send_faults = c.self.inside.send_faults } in
    vacant-goes c.args.self.now new [] [] (ap (λ (l : LoopState). l.served) (sym c.self.view_is) ∙ c.in_default.is)

pub returns-in_default-clause-lives : goal.returns-in_default-clause-lives
returns-in_default-clause-lives g c =
    subst (λ o. LivesAlike o c.self.inside.served) (ap (λ (l : LoopState). l.served) c.self.view_is) (subst (λ o. LivesAlike o o) (sym c.in_default.is) tt)

pub returns-in_default-clause-end : goal.returns-in_default-clause-end
returns-in_default-clause-end g c =
    let new : LoopState = record { served = c.self.inside.served; receive_faults = c.self.inside.receive_faults; send_faults = c.self.inside.send_faults } in
    (tt, tt, goes-stays LoopStandsFor c.args.self.now new (stands-goes c.args.self.now new [] [] (returns-in_default-clause-stayed g c)))

pub returns-then-not-wait-clause-broke : goal.returns-then-not-wait-clause-broke
returns-then-not-wait-clause-broke g c =
    waits-goes c.args.self.now c.in-Some.served c.wait.new.self c.saturating_add-self-inside.result c.self.inside.send_faults (ap (λ (l : LoopState). l.served) (sym c.self.view_is) ∙ c.in-Some.is)
    c.wait.ensures.waits

pub returns-then-not-wait-clause-last : goal.returns-then-not-wait-clause-last
returns-then-not-wait-clause-last g c = let last = c.if-not-wait.ensures.last refl in record { last = last.0; pending = last.1 }

pub returns-then-not-wait-clause-lives : goal.returns-then-not-wait-clause-lives
returns-then-not-wait-clause-lives g c =
    waits-alike c.args.self.now.served c.in-Some.served c.wait.new.self c.wait.new.self (ap (λ (l : LoopState). l.served) (sym c.self.view_is) ∙ c.in-Some.is) c.wait.ensures.waits refl

pub returns-then-not-wait-clause-receives : goal.returns-then-not-wait-clause-receives
returns-then-not-wait-clause-receives g c = (returns-then-not-wait-clause-lives g c, tt, returns-then-not-wait-clause-last g c)

pub returns-then-not-wait-clause-failed : goal.returns-then-not-wait-clause-failed
returns-then-not-wait-clause-failed g c =
    let new : LoopState = record { served = Some c.wait.new.self; receive_faults = c.saturating_add-self-inside.result; send_faults = c.self.inside.send_faults } in
    (search rules, tt, goes-stays LoopStandsFor c.args.self.now new (stands-goes c.args.self.now new [] [] (returns-then-not-wait-clause-broke g c)))

pub returns-in-0-clause-stayed : goal.returns-in-0-clause-stayed
returns-in-0-clause-stayed g c =
    let new : LoopState = record { served = Some c.give.new.self; receive_faults = c.self.inside.receive_faults; send_faults = c.self.inside.send_faults } in
    subst (λ n. LoopGoesOn c.args.self.now new [] (take n c.give.new.into)) c.in-0.is
    (gives-goes c.args.self.now c.in-Some.served c.wait.new.self c.give.new.self c.self.inside.receive_faults c.self.inside.send_faults (take c.give.result c.give.new.into)
    (ap (λ (l : LoopState). l.served) (sym c.self.view_is) ∙ c.in-Some.is) c.wait.ensures.waits c.give.ensures.went)

pub returns-in-0-clause-drained : goal.returns-in-0-clause-drained
returns-in-0-clause-drained g c =
    let left = c.wait.new.self.left in record {
      answered = ap (λ core. pending_at core.interleaved.state.tables 1) c.give.ensures.same.0 ∙ c.if-not-wait.ensures.answered refl;
      none_left = c.give.ensures.same.1 ∙ ap (λ n. drop n left) c.in-0.is ∙ drop_all 0 left (omega (arith, c.in-0.is, c.give.ensures.count, c.requires));
    }

pub returns-in-0-clause-lives : goal.returns-in-0-clause-lives
returns-in-0-clause-lives g c =
    waits-alike c.args.self.now.served c.in-Some.served c.wait.new.self c.give.new.self (ap (λ (l : LoopState). l.served) (sym c.self.view_is) ∙ c.in-Some.is) c.wait.ensures.waits c.give.ensures.same.0

pub returns-in-0-clause-receives : goal.returns-in-0-clause-receives
returns-in-0-clause-receives g c = (returns-in-0-clause-lives g c, returns-in-0-clause-drained g c, tt)

pub returns-in-0-clause-end : goal.returns-in-0-clause-end
returns-in-0-clause-end g c =
    let new : LoopState = record { served = Some c.give.new.self; receive_faults = c.self.inside.receive_faults; send_faults = c.self.inside.send_faults } in
    (tt, tt, goes-stays LoopStandsFor c.args.self.now new (stands-goes c.args.self.now new [] [] (returns-in-0-clause-stayed g c)))

pub returns-in_default-give-clause-went : goal.returns-in_default-give-clause-went
returns-in_default-give-clause-went g c =
    gives-goes c.args.self.now c.in-Some.served c.wait.new.self c.give.new.self c.self.inside.receive_faults c.self.inside.send_faults (take c.give.result c.give.new.into)
    (ap (λ (l : LoopState). l.served) (sym c.self.view_is) ∙ c.in-Some.is) c.wait.ensures.waits c.give.ensures.went

pub returns-in_default-give-clause-lives : goal.returns-in_default-give-clause-lives
returns-in_default-give-clause-lives g c =
    waits-alike c.args.self.now.served c.in-Some.served c.wait.new.self c.give.new.self (ap (λ (l : LoopState). l.served) (sym c.self.view_is) ∙ c.in-Some.is) c.wait.ensures.waits c.give.ensures.same.0

pub returns-in_default-give-clause-receives : goal.returns-in_default-give-clause-receives
returns-in_default-give-clause-receives g c = (returns-in_default-give-clause-lives g c, tt, tt)

pub returns-in_default-give-clause-got : goal.returns-in_default-give-clause-got
returns-in_default-give-clause-got g c =
    let bytes = take c.give.result c.give.new.into in
    let new : LoopState = record { served = Some c.give.new.self; receive_faults = c.self.inside.receive_faults; send_faults = c.self.inside.send_faults } in
    (search rules, c.give.ensures.within, tt, goes-gives LoopStandsFor c.args.self.now new bytes (stands-goes c.args.self.now new [] bytes (returns-in_default-give-clause-went g c)))
