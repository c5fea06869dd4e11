use Rattle.std.proofs.Common.{◌≡◌, ◌<◌, ◌^◌, Option, Some, None, IfSome, arith, sym, ap, ◌∙◌, subst}
use Rattle.std.proofs.lemmas.Option.{none-some, same_Some}
use Rattle.vx_flow.specs.Sound.{IsSound}
use Rattle.vx_codec.specs.Asked.{CallFits}
use Rattle.vx_client.specs.State.{ClientState, client_with_link}
use Rattle.vx_client.specs.Message.{call_record}
use Rattle.vx_client.specs.Exchange.{IsCalled}
use Rattle.vx_client.specs.Ending.{TellsCalls}
use Rattle.vx_client.specs.Chunks.{write_call}
use Rattle.vx_client.specs.Meaning.{nothing_of}
use Rattle.vx_loop.specs.LoopState.{ServedState, LoopState}
use Rattle.vx_loop.specs.Standing.{MarkedStands, IsLoopKept}
use Rattle.vx_loop.specs.Telling.{IsReceive, IsSend}
use Rattle.vx_loop.proofs.Calling.{called-plain}
use Rattle.vx_loop.proofs.Happening.{reached-sound}
use Rattle.vx_loop.proofs.Ended.{piece-heard, piece-closed, piece-fault, piece-sent}
use Rattle.vx_loop.proofs.through.write_piece.Goals as goal

-- the gateway of a link that is kept is sound
kept-sound : (o : Option ServedState) (s : ServedState) → o ≡ Some s → IfSome o IsLoopKept → IsSound s.core.interleaved
kept-sound None s is kept = absurd (none-some s is)
kept-sound (Some t) s is kept = subst (λ (u : ServedState). IsSound u.core.interleaved) (same_Some t s is) (reached-sound t.core.interleaved kept.reached)

-- what the call over the link that stands aside did, the client did
pub returns : goal.returns
returns g c =
    let old = c.args.client.now in
    let new = c.swap_link-2.new.self in
    let opts = c.args.opts.now in
    let bytes = c.args.bytes.now in
    let call = write_call c.args.lid opts c.args.flags bytes in
    let r = c.write_marked-result.result in
    let link = c.swap_link.new.link in
    let before : ClientState LoopState = client_with_link c.swap_link.new.self link in
    let is : before ≡ old = ap (λ (s : ClientState LoopState). client_with_link s link) c.swap_link.ensures.over ∙ ap (λ (l : LoopState). client_with_link old l) c.swap_link.ensures.given in
    let Did : ClientState LoopState → ClientState LoopState → Type 0 =
    λ x y. IsCalled (MarkedStands x.link) (λ l. None) (λ l. l.receive_faults) (λ l. l.send_faults) x y call 0 nothing_of r
    × TellsCalls IsReceive IsSend x.link y.link (call_record x.next call) r × IfSome x.link.served IsLoopKept × IfSome y.link.served IsLoopKept × (x.next < 2 ^ 32) in
    let over : Did before new =
    subst (Did before) (sym c.swap_link-2.ensures.over)
    (c.write_marked-result.ensures.called, c.write_marked-result.ensures.told, c.is_kept.ensures, c.is_kept-2.ensures, c.write_marked-result.ensures.number) in
    let did : Did old new = subst (λ x. Did x new) is over in
    let fits : CallFits call = (c.ranges.lid.fits, (c.is_word.ensures, (c.is_word-2.ensures, (c.ranges.flags.fits, (((omega arith), (omega arith)), tt))))) in
    let short = c.requires.short in
    record {
      sound = λ s rests. kept-sound old.link.served s rests.serves did.2;
      called = called-plain (λ l. None) (λ l. l.receive_faults) (λ l. l.send_faults) old new call 0 nothing_of r did.0;
      heard = piece-heard old new c.args.lid opts.io_timeout opts.lock_timeout c.args.flags bytes did.4 fits short r did.2 did.0 did.1;
      closed = piece-closed old new c.args.lid opts.io_timeout opts.lock_timeout c.args.flags bytes did.4 fits short r did.3 did.0 did.1;
      fault = piece-fault old new c.args.lid opts.io_timeout opts.lock_timeout c.args.flags bytes did.4 fits short r did.1;
      sent = piece-sent old new c.args.lid opts.io_timeout opts.lock_timeout c.args.flags bytes did.4 fits short r did.1;
    }

-- what the client gives back is the link without a gateway that it was lent
pub let_go-requires : goal.let_go-requires
let_go-requires g c =
    ap (λ (l : LoopState). l.served)
    (c.swap_link-2.ensures.given ∙ c.write_marked-result.ensures.own ∙ ap (λ (s : ClientState LoopState). s.link) c.swap_link.ensures.over ∙ c.vacant-link.ensures)
