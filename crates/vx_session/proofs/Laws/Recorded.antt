-- A message of a session: what it means, and how it is served.
use Rattle.std.proofs.Common.{◌≡◌, ℕ, List, [], ◌∷◌, take, count_by, refl, ap, ◌∙◌, arith}
use Rattle.vx_calls.specs.declared.calls.Role.TheVariants as role
use Rattle.vx_session.specs.Origin.{Origin}
use Rattle.vx_gate.specs.PassView.{PassView}
use Rattle.vx_record.specs.Fragments.{record_of}
use Rattle.vx_exchange.specs.Meaning.{Answered, Aborts}
use Rattle.vx_exchange.specs.declared.polls.Aborted.{Aborted}
use Rattle.vx_group.specs.Groups.{Group}
use Rattle.vx_session.specs.Turning as turning
use Rattle.vx_session.proofs.Laws.Turns.{makes-none, makes-later}
use Rattle.vx_session.specs.Dialing.{DialShown, is_failed_dial}
use Rattle.vx_session.specs.Placing.{Placed}
use Rattle.vx_session.specs.Progress.{ClockedAs, ServesMeaning}
use Rattle.vx_session.proofs.Laws.Progressing.{rings-none}
use Rattle.vx_session.proofs.Calling.{rings-still, failed-one}

module _ {B : Type 0} (g : Origin B) (told : ℕ) (pass : PassView Group) (conn : ℕ) (dial : DialShown) where
  -- a message that says what is answered without the core
  pub answered-does : (clocked : List Placed → Type 0) → clocked [] → (text out : List ℕ) → out ≡ record_of text → ServesMeaning g clocked told pass conn (Answered text) dial out pass dial
  answered-does clocked none text out is = record {
    placed = [];
    rung = [];
    makes = makes-none told pass;
    asks = none;
    rings = rings-none dial;
    holding = (refl, refl, is);
  }

  -- a device_abort, which is told in a turn
  pub aborts-does : {C : Type 0} (tells : C → ℕ → C → Type 0) (clock : C) (xid lid : ℕ) (room : List ℕ) (aborted : Aborted) (pass' : PassView Group)
      → turning.SessionAborts g pass conn lid xid room aborted pass' → ServesMeaning g (ClockedAs role.Abort tells clock clock) told pass conn (Aborts xid lid) dial (take aborted.len room) pass' dial
  aborts-does tells clock xid lid room aborted pass' aborts =
      let p = aborts.placed in
      record {
        placed = p ∷ [];
        rung = [];
        makes = makes-later 0 told pass pass' (p ∷ []) (omega arith) aborts.turns.makes;
        asks = refl;
        rings = rings-still dial (p ∷ []) (failed-one p ∙ ap (count_by is_failed_dial) aborts.events);
        holding = record {
          group = p;
          error = aborted.error;
          groups = refl;
          events = aborts.events;
          steps = aborts.steps;
          rung = refl;
          reply_is = aborts.stands.record_is;
        };
      }
