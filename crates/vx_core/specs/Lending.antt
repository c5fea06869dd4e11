-- What a poll leaves, with its reply lent.
use Rattle.std.specs.Prelude.{◌≡◌, ◌≤◌, ℕ, max, Bool, [], ◌∷◌, length, Some}
use Rattle.std.specs.Borrow.{MutBor, Fml}
use denote.RattleType.{RattleType}
use Rattle.std.specs.Io.BufRead.{Rests}
use Rattle.vx_calls.specs.declared.limits.TheConstants.{READ_MAX, SLICE_MAX}
use Rattle.vx_calls.specs.Reply.{reply_shown}
use Rattle.vx_488.specs.Means.{Means}
use Rattle.vx_488.specs.Steps.{Step, Told, Cut}
use Rattle.vx_488.specs.declared.bus.Bus.{Ghosts}
use Rattle.vx_flow.specs.Poll.{Ending, Answered, Waited, Dialed, begins}
use Rattle.vx_core.specs.CoreState.{CoreState}
use Rattle.vx_core.specs.Given.{reply_bytes}
use Rattle.vx_core.specs.Polling.{PollOnBus}
use Rattle.vx_core.specs.declared.polled.Polled.{Polled}
use Rattle.vx_core.specs.declared.polled.Polled.TheVariants as polled
use Rattle.vx_core.specs.contracts.shared.Core.{the_row}

-- what a poll gives tells how it ended
abbrev pub Shows : Polled → Ending → Type 0
Shows (polled.Answer given) (Answered ran level reply) = reply_shown given ≡ reply
Shows (polled.NotYet why) (Waited waits) = why ≡ waits
Shows (polled.Dial host port) (Dialed h p) = (host ≡ h) × (port ≡ p)
Shows _ _ = ⊥

-- a reply has no more bytes than a read may get
abbrev pub PollFits : Polled → Type 0
PollFits (polled.Answer given) = length (reply_bytes (reply_shown given)) ≤ READ_MAX
PollFits _ = Unit {0}

-- what a poll leaves of a core
pub record PollLeaves {B : Type 0} (means : B → Means) (through : B → Step → B → Type 0) (srq ndac : B → Bool) (old : CoreState B)
    (conn now : ℕ) (result : Polled) (new : CoreState B) : Type 0 where
  pub ending : Ending
  pub last : new.last ≡ Some ending
  pub shows : Shows result ending
  -- it began its call's turn where none was under way and the call's might begin
  pub began : new.began ≡ begins old.interleaved conn (max old.interleaved.state.moment now)
  -- no more transfers than a slice may have
  pub few : length (means new.bus).moves ≤ SLICE_MAX
  pub over : PollOnBus means through srq ndac old.interleaved old.bus conn (max old.interleaved.state.moment now) (Cut ∷ Told (max old.interleaved.state.moment now) ∷ [])
      ending new.interleaved new.bus

-- the core rests so
abbrev pub PollRests : (T : RattleType) (g : Ghosts T.Denot) → MutBor (CoreState T.Denot) → ℕ → ℕ → Polled → Fml
PollRests T g s conn now result =
    Rests (the_row T g) s (λ rests. PollLeaves g.means g.through g.srq_level g.ndac_level s.now conn now result rests)
