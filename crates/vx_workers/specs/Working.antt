-- What a worker of a server does with the links that it is handed.
use Rattle.std.specs.Prelude.{ℕ, List, [], ◌∷◌, ◌++◌}
use Rattle.vx_calls.specs.declared.calls.Role.{Role}
use Rattle.vx_calls.specs.declared.calls.Role.TheVariants as role
use Rattle.vx_io_traits.specs.declared.dials.Dial.{Ghosts as OfDial}
use Rattle.vx_text.specs.Ends.{End}
use Rattle.vx_session.specs.Dialing.{DialShown, dial_shown, no_dial}
use Rattle.vx_session.specs.Placing.{Placed}
use Rattle.vx_session.specs.Progress.{Clocked, unclocked}
use Rattle.vx_session.specs.declared.links.Linked.{Linked}
use Rattle.vx_workers.specs.Logged.{untold}

-- what a worker has as it serves a link: its access, the link, what can be known of its dial, and what its note took
pub record Working (A L : Type 0) : Type 0 where
  pub access : A
  pub link : L
  pub dial : DialShown
  pub note : End

-- What serving a link does: the groups for which the clock was called so, the greatest moment that the clock has told, the role of the
-- connection, what the worker had, how the link's work ended, and what the worker has then.
abbrev pub Serving : Type 0 → Type 0 → Type 1
Serving A L = (List Placed → Type 0) → ℕ → Role → Working A L → Linked → Working A L → Type 0

-- what a worker of core links has between two of them
pub record CoreWorker (A C : Type 0) : Type 0 where
  pub access : A
  pub clock : C
  pub dial : DialShown

-- by the types of its clock and its dial
abbrev pub core_worker : {A C D : Type 0} → OfDial D → A → C → D → CoreWorker A C
core_worker by_dial access clock dial = record { access = access; clock = clock; dial = dial_shown by_dial dial }

-- a core link was served, and is gone then
pub record ServesCore {A L C : Type 0} (serves : Serving A L) (tells : C → ℕ → C → Type 0) (told : C → ℕ) (before : CoreWorker A C) (link : L) (after : CoreWorker A C) : Type 0 where
  pub how : Linked
  pub last : L
  pub did : serves (Clocked tells before.clock after.clock) (told after.clock) role.Core (record { access = before.access; link = link; dial = before.dial; note = untold }) how
      (record { access = after.access; link = last; dial = after.dial; note = untold })

-- an abort link was served, and is gone then
pub record ServesAbort {A L : Type 0} (serves : Serving A L) (before : A) (link : L) (after : A) : Type 0 where
  pub how : Linked
  pub last : L
  pub did : serves unclocked 0 role.Abort (record { access = before; link = link; dial = no_dial; note = untold }) how (record { access = after; link = last; dial = no_dial; note = untold })

-- links were served one after another, each so, and nothing else was done between
pub data ServesEach {S L : Type 0} (one : S → L → S → Type 0) : S → List L → S → Type 0 where
  Nothing_yet : (s : S) → ServesEach one s [] s
  And_one : (first s s' : S) (links : List L) (link : L) → ServesEach one first links s → one s link s' → ServesEach one first (links ++ link ∷ []) s'
