use Rattle.std.proofs.Common.{◌≡◌, ℕ, List, ◌++◌, length, drop, Option, Some, [], sym, ap, ◌∙◌, subst}
use Rattle.std.specs.Prelude.{is_some}
use Rattle.vx_ctrl.specs.Goes.{HoldsBytes}
use Rattle.vx_core.specs.declared.running.Running.{Running}
use Rattle.vx_core.specs.Shown.{running_of}
use Rattle.vx_core.specs.KernelState.{KernelState}
use Rattle.vx_core.specs.Turning.{WentOn}
use Rattle.vx_core.proofs.Turning.{kernel_of, may-go, begun-with, few-with, turn-own, few-made, went-on, own-running, written}
use Rattle.vx_core.proofs.kernel.Kernel.move_on.Goals as goal

pub bytes-requires : goal.bytes-requires
bytes-requires g c =
    let m = may-go g.B.Bus.means _ c.args.self.now c.args.conn c.in-Some.running c.passed_calls.ensures.passed c.self.view_is c.requires c.in-Some.is in
    ap is_some m.pending

pub go-went-requires-clause-cut : goal.go-went-requires-clause-cut
go-went-requires-clause-cut g c = subst (λ (k : KernelState g.row.B.Denot). (g.B.Bus.means k.bus).moves ≡ []) (sym c.self.view_is) c.requires.cut

pub go-went-requires-clause-asks : goal.go-went-requires-clause-asks
go-went-requires-clause-asks g c = subst (λ (k : KernelState g.row.B.Denot). (g.B.Bus.means k.bus).asks ≡ 0) (sym c.self.view_is) c.requires.asks

pub go-went-requires-clause-plain : goal.go-went-requires-clause-plain
go-went-requires-clause-plain g c =
    let m = may-go g.B.Bus.means _ c.args.self.now c.args.conn c.in-Some.running c.passed_calls.ensures.passed c.self.view_is c.requires c.in-Some.is in
    m.runs.plain

pub go-went-requires-clause-own : goal.go-went-requires-clause-own
go-went-requires-clause-own g c =
    let m = may-go g.B.Bus.means _ c.args.self.now c.args.conn c.in-Some.running c.passed_calls.ensures.passed c.self.view_is c.requires c.in-Some.is in
    turn-own g.B.Bus.means _ c.in-Some.running m.runs

pub go-went-requires-clause-short : goal.go-went-requires-clause-short
go-went-requires-clause-short g c =
    let m = may-go g.B.Bus.means _ c.args.self.now c.args.conn c.in-Some.running c.passed_calls.ensures.passed c.self.view_is c.requires c.in-Some.is in
    few-with g.B.Bus.means _ c.args.conn c.in-Some.running c.bytes.result.now m (c.bytes.ensures m.runs.asked m.pending)

pub go-went-requires-clause-begun : goal.go-went-requires-clause-begun
go-went-requires-clause-begun g c =
    let m = may-go g.B.Bus.means _ c.args.self.now c.args.conn c.in-Some.running c.passed_calls.ensures.passed c.self.view_is c.requires c.in-Some.is in
    let begun = begun-with g.B.Bus.means _ c.in-Some.running c.bytes.result.now m.runs (c.bytes.ensures m.runs.asked m.pending) in
    (c.self.inside.before, c.self.inside.made.items, begun)

pub keep_moves-requires : goal.keep_moves-requires
keep_moves-requires g c =
    let m = may-go g.B.Bus.means _ c.args.self.now c.args.conn c.in-Some.running c.passed_calls.ensures.passed c.self.view_is c.requires c.in-Some.is in
    let same = c.bytes.ensures m.runs.asked m.pending in
    let begun = begun-with g.B.Bus.means _ c.in-Some.running c.bytes.result.now m.runs same in
    few-made g.B.Bus.means g.B.Bus.through c.go-went.new.self c.self.inside.before c.bytes.result.now c.self.inside.made.items
    (g.B.Bus.means c.go-went.new.bus).moves c.go-went.result c.self.inside.bus c.go-went.new.bus
    c.few_transfers.ensures (few-with g.B.Bus.means _ c.args.conn c.in-Some.running c.bytes.result.now m same) (c.go-went.ensures.goes _ _ begun)

pub returns-clause-went : goal.returns-clause-went
returns-clause-went g c = λ r at.
    let i = c.self.inside in
    let means = g.B.Bus.means in
    let through = g.B.Bus.through in
    let k : KernelState g.row.B.Denot = kernel_of i.bus i.tables i.moment i.running i.before i.made.items i.room.items i.dialed.items i.last i.began in
    let was = c.in-Some.running in
    let m = may-go means k c.args.self.now c.args.conn was c.passed_calls.ensures.passed c.self.view_is c.requires c.in-Some.is in
    let bus = c.go-went.new.bus in
    let turn = c.go-went.new.self in
    let room = c.go-went.new.room in
    let N : ℕ → List ℕ → KernelState g.row.B.Denot = λ conn room.
    record k { bus = bus; running = Some (record { conn = conn; turn = turn }); made = k.made ++ (means bus).moves; room = room } in
    let went : WentOn means through k was c.go-went.result (N was.conn room) =
    went-on means through k was bus room c.bytes.result.now turn c.go-went.result m.runs (c.bytes.ensures m.runs.asked m.pending)
    c.go-went.ensures.goes c.go-went.ensures.goes_on c.go-went.ensures.task c.go-went.ensures.begun c.go-went.ensures.wire
    (λ w made begun gets holds. c.go-went.ensures.holds w made begun gets
    (subst (λ (room : List ℕ). HoldsBytes was.turn made room) (sym c.deref_mut.ensures.value) holds)) in
    let A : KernelState g.row.B.Denot → Type 0 = λ k. running_of k.running c.args.conn ≡ Some r in
    let own = own-running was r c.args.conn (subst (λ (o : Option Running). running_of o c.args.conn ≡ Some r) c.in-Some.is (subst A (sym c.self.view_is) at)) in
    let back = written i.room.len room (drop (length room) i.room.items) (c.go-went.auto.room ∙ c.deref_mut.ensures.len) in
    let InConn : ℕ → Type 0 = λ n. WentOn means through k was c.go-went.result (N n room) in
    let InRoom : List ℕ → Type 0 = λ room. WentOn means through k was c.go-went.result (N c.args.conn room) in
    let InNew : KernelState g.row.B.Denot → Type 0 = λ new. WentOn means through k was c.go-went.result new in
    let OfTurn : Running → Type 0 = λ x. WentOn means through k x c.go-went.result c.keep_moves.new.self in
    let InOld : KernelState g.row.B.Denot → Type 0 = λ old. WentOn means through old r c.go-went.result c.keep_moves.new.self in
    subst InOld c.self.view_is (subst OfTurn own.1 (subst InNew (sym c.keep_moves.ensures) (subst InRoom (sym back) (subst InConn own.0 went))))
