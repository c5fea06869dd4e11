use Rattle.std.proofs.Common.{◌≡◌, ℕ, List, length, take, sym, ap, ◌∙◌, subst}
use Rattle.vx_calls.specs.declared.calls.Proc.TheVariants as proc
use Rattle.vx_488.specs.Bursts.{StopsAt}
use Rattle.vx_client.specs.Sizes.{bytes_told}
use Rattle.vx_upstream.specs.UpstreamState.{UpstreamState}
use Rattle.vx_upstream.specs.Answering.{bytes_come}
use Rattle.vx_upstream.proofs.Asking.{read-judged}
use Rattle.vx_upstream.proofs.upstream.UpstreamBus.read_some.Goals as goal

pub put_front-requires-clause-here : goal.put_front-requires-clause-here
put_front-requires-clause-here g c = c.judge-many.ensures.here

pub put_front-requires-clause-room : goal.put_front-requires-clause-room
put_front-requires-clause-room g c = c.judge-many.ensures.room

pub returns-clause-read : goal.returns-clause-read
returns-clause-read g c =
    let r = c.ask_bytes-answer.result in
    let told = bytes_told proc.Read c.ask_bytes-answer.new.self.client.last in
    let come : c.bytes_come-bytes.result.now ≡ bytes_come r told =
    c.bytes_come-bytes.ensures ∙ ap (bytes_come r) (c.bytes_told.ensures ∙ ap (λ (s : UpstreamState g.row.L.Denot). bytes_told proc.Read s.client.last) c.self.view_is) in (
      r,
      c.ask_bytes-answer.ensures.called,
      read-judged (length c.args.room.now) c.args.stop r c.judge-many.result c.bytes_come-bytes.result.now told c.tells_end.result c.byte_move.result
          c.judge-many.ensures.value come c.tells_end.ensures c.byte_move.ensures,
      c.put_front.ensures.front ∙ ap (take c.judge-many.result.got) come,
    )

pub returns-clause-stops : goal.returns-clause-stops
returns-clause-stops g c =
    subst (λ (bs : List ℕ). StopsAt c.args.stop (length c.args.room.now) bs c.judge-many.result.stop) (sym c.put_front.ensures.front) c.judge-many.ensures.stops

pub returns-clause-left : goal.returns-clause-left
returns-clause-left g c = c.put_front.ensures.rest
