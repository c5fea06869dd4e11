-- What is said of a poll, by what the core gave.
use Rattle.std.proofs.Common.{◌≡◌, ℕ, max, List, ap, ◌∙◌, subst}
use Rattle.vx_calls.specs.declared.replies.ReplyRef.{ReplyRef}
use Rattle.vx_calls.specs.declared.codes.ErrorCode.{ErrorCode}
use Rattle.vx_calls.specs.Reply.{Reply, reply_shown}
use Rattle.vx_488.specs.declared.bus.Bus.{Ghosts}
use Rattle.vx_flow.specs.Poll.{Ending, Answered, Waited, Dialed}
use Rattle.vx_core.specs.CoreState.{CoreState}
use Rattle.vx_flow.specs.declared.progress.Why.{Why}
use Rattle.vx_core.specs.declared.polled.Polled.{Polled}
use Rattle.vx_core.specs.declared.polled.Polled.TheVariants as polled
use Rattle.vx_core.specs.Lending.{Shows, PollLeaves}
use Rattle.vx_exchange.specs.Meaning.{reply_record}
use Rattle.vx_exchange.specs.Opening.{Stands}
use Rattle.vx_exchange.specs.Doing.{reply_error, Says}
use Rattle.vx_exchange.specs.Doing as doing
use Rattle.vx_exchange.specs.declared.polls.PollEnd.{PollEnd}
use Rattle.vx_exchange.specs.declared.polls.PollEnd.TheVariants as end

-- a reply, whose record stands in the room
pub answer-says : (given : ReplyRef) (xid len : ℕ) (room : List ℕ) (error : ErrorCode) → Stands (reply_record xid (reply_shown given)) len room → error ≡ reply_error (reply_shown given)
    → (ending : Ending) → Shows (polled.Answer given) ending → Says xid room (end.Replied len error) ending
answer-says given xid len room error stands is (Answered ran level told) shows =
    (subst (λ (r : Reply). Stands (reply_record xid r) len room) shows stands, is ∙ ap reply_error shows)
answer-says given xid len room error stands is _ shows = absurd shows

-- a wait
pub wait-says : (why : Why) (xid : ℕ) (room : List ℕ) (ending : Ending) → Shows (polled.NotYet why) ending → Says xid room (end.NotYet why) ending
wait-says why xid room (Waited waits) shows = shows
wait-says why xid room _ shows = absurd shows

-- a dial that is asked for
pub dial-says : (host port xid : ℕ) (room : List ℕ) (ending : Ending) → Shows (polled.Dial host port) ending → Says xid room (end.Dial host port) ending
dial-says host port xid room (Dialed h p) shows = shows
dial-says host port xid room _ shows = absurd shows

-- a poll of a core, of which this is said, by what it gave
pub polled-so : {B : Type 0} (g : Ghosts B) (old new : CoreState B) (conn now xid : ℕ) (room : List ℕ) (seen given : Polled) (said : PollEnd) → seen ≡ given
    → PollLeaves g.means g.through g.srq_level g.ndac_level old conn now seen new → ((ending : Ending) → Shows given ending → Says xid room said ending)
    → doing.Polled g old conn (max old.interleaved.state.moment now) xid room said new
polled-so g old new conn now xid room seen given said is leaves says =
    let left = subst (λ (p : Polled). PollLeaves g.means g.through g.srq_level g.ndac_level old conn now p new) is leaves in
    record { ending = left.ending; last = left.last; says = says left.ending left.shows; began = left.began; few = left.few; over = left.over }
