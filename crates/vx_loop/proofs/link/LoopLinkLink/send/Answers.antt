use Rattle.std.proofs.Common.{rules, ◌≡◌, true, [], Some, IfSome, length, take, sym, ap, subst, ◌∙◌, arith}
use Rattle.vx_loop.specs.Gateway.{gateway_of}
use Rattle.vx_loop.specs.LoopState.{LoopState}
use Rattle.vx_loop.specs.Serving.{lives}
use Rattle.vx_loop.specs.Standing.{LoopStandsFor, LoopGoesOn, IsLoopRefused, LivesOn, EndsEarly}
use Rattle.vx_loop.proofs.Looking.{goes-takes, goes-stays, stands-goes, takes-goes, vacant-goes}
use Rattle.vx_loop.proofs.link.LoopLinkLink.send.Given.{Over}
use Rattle.vx_loop.proofs.link.LoopLinkLink.send.Goals as goal

-- the gateway is the link's
is_there : (g : Over) (c : goal.In-Some-accept g) → c.args.self.now.served ≡ Some c.in-Some.served
is_there g c = ap (λ (l : LoopState). l.served) (sym c.self.view_is) ∙ c.in-Some.is

pub returns-in-Some-accept-clause-went : goal.returns-in-Some-accept-clause-went
returns-in-Some-accept-clause-went g c =
    takes-goes c.args.self.now c.in-Some.served c.accept.new.self c.args.self.now.receive_faults c.args.self.now.send_faults (take c.in-Some-accept.count c.args.from.now) (is_there g c)
    c.in-Some-accept.ensures.took.2

pub returns-in-Some-accept-clause-refused : goal.returns-in-Some-accept-clause-refused
returns-in-Some-accept-clause-refused g c = subst (λ o. LivesOn o (Some c.accept.new.self) c.args.from.now) (sym (is_there g c)) c.in-Some-accept.ensures.stays

pub returns-in-Some-accept-clause-early : goal.returns-in-Some-accept-clause-early
returns-in-Some-accept-clause-early g c = subst (λ o. EndsEarly o (Some c.accept.new.self)) (sym (is_there g c)) c.in-Some-accept.ensures.early

pub returns-in-Some-accept-clause-sends : goal.returns-in-Some-accept-clause-sends
returns-in-Some-accept-clause-sends g c =
    ((returns-in-Some-accept-clause-went g c, returns-in-Some-accept-clause-refused g c, returns-in-Some-accept-clause-early g c), tt)

pub returns-in-Some-accept-clause-took : goal.returns-in-Some-accept-clause-took
returns-in-Some-accept-clause-took g c =
    let old = c.args.self.now in
    let new : LoopState = record old { served = Some c.accept.new.self } in
    let bytes = take c.in-Some-accept.count c.args.from.now in
    let took = c.in-Some-accept.ensures.took in
    (took.0, took.1, goes-takes LoopStandsFor old new bytes (stands-goes old new bytes [] (returns-in-Some-accept-clause-went g c)))

pub returns-in-None-clause-failed : goal.returns-in-None-clause-failed
returns-in-None-clause-failed g c =
    let old = c.args.self.now in
    let new : LoopState = record { served = Some c.accept.new.self; receive_faults = old.receive_faults; send_faults = c.saturating_add-self-inside.result } in
    let is : old.served ≡ Some c.in-Some.served = ap (λ (l : LoopState). l.served) (sym c.self.view_is) ∙ c.in-Some.is in
    let went : LoopGoesOn old new [] [] = takes-goes old c.in-Some.served c.accept.new.self old.receive_faults new.send_faults [] is c.in-None.ensures.broke in
    (search rules, goes-stays LoopStandsFor old new (stands-goes old new [] [] went))

-- there is no gateway
pub returns-in_default-clause-went : goal.returns-in_default-clause-went
returns-in_default-clause-went g c =
    let new : LoopState = record { served = c.self.inside.served; receive_faults = c.self.inside.receive_faults; send_faults = c.self.inside.send_faults } in
    vacant-goes c.args.self.now new (take (length c.args.from.now) c.args.from.now) [] (ap (λ (l : LoopState). l.served) (sym c.self.view_is) ∙ c.in_default.is)

pub returns-in_default-clause-refused : goal.returns-in_default-clause-refused
returns-in_default-clause-refused g c =
    subst (λ o. LivesOn o c.self.inside.served c.args.from.now) (ap (λ (l : LoopState). l.served) c.self.view_is) (subst (λ o. LivesOn o o c.args.from.now) (sym c.in_default.is) tt)

pub returns-in_default-clause-early : goal.returns-in_default-clause-early
returns-in_default-clause-early g c =
    subst (λ o. EndsEarly o c.self.inside.served) (ap (λ (l : LoopState). l.served) c.self.view_is) (subst (λ o. EndsEarly o o) (sym c.in_default.is) tt)

pub returns-in_default-clause-sends : goal.returns-in_default-clause-sends
returns-in_default-clause-sends g c = ((returns-in_default-clause-went g c, returns-in_default-clause-refused g c, returns-in_default-clause-early g c), tt)

pub returns-in_default-clause-took : goal.returns-in_default-clause-took
returns-in_default-clause-took g c =
    let bytes = take (length c.args.from.now) c.args.from.now in
    let new : LoopState = record { served = c.self.inside.served; receive_faults = c.self.inside.receive_faults; send_faults = c.self.inside.send_faults } in
    (c.requires, omega arith, goes-takes LoopStandsFor c.args.self.now new bytes (stands-goes c.args.self.now new bytes [] (returns-in_default-clause-went g c)))

-- the connection ends
pub returns-in-None-clause-broke : goal.returns-in-None-clause-broke
returns-in-None-clause-broke g c =
    takes-goes c.args.self.now c.in-Some.served c.accept.new.self c.self.inside.receive_faults c.saturating_add-self-inside.result [] (ap (λ (l : LoopState). l.served) (sym c.self.view_is) ∙ c.in-Some.is)
    c.in-None.ensures.broke

pub returns-in-None-clause-cause : goal.returns-in-None-clause-cause
returns-in-None-clause-cause g c =
    subst (λ o. IfSome o (λ s. IsLoopRefused s c.args.from.now)) (sym (ap (λ (l : LoopState). l.served) (sym c.self.view_is) ∙ c.in-Some.is)) c.in-None.ensures.cause

pub returns-in-None-clause-alive : goal.returns-in-None-clause-alive
returns-in-None-clause-alive g c =
    subst (λ o. IfSome o (λ s. lives (gateway_of s.core) ≡ true)) (sym (ap (λ (l : LoopState). l.served) (sym c.self.view_is) ∙ c.in-Some.is)) c.in-None.ensures.alive

pub returns-in-None-clause-sends : goal.returns-in-None-clause-sends
returns-in-None-clause-sends g c = (
  tt,
  (
    subst (λ o. IfSome o (λ s. IsLoopRefused s c.args.from.now × (lives (gateway_of s.core) ≡ true))) (sym (ap (λ (l : LoopState). l.served) (sym c.self.view_is) ∙ c.in-Some.is)) (c.in-None.ensures.cause, c.in-None.ensures.alive),
    c.in-None.ensures.ended,
  ),
)
