-- To be believed.
-- A line is taken behind the lines before it, or has a cause against it.
use Rattle.std.specs.Prelude.{Bool, ◌&&◌, if◌then◌else◌, nat_lt, List, [], ◌∷◌, Option, Some, None}
use Rattle.vx_trace.specs.Text.{is_timed}
use Rattle.vx_rules.specs.Lists.{along}
use Rattle.vx_rules.specs.State.{State}
use Rattle.vx_rules.specs.AtomicStep.{atomic_step}
use Rattle.vx_flow.specs.Event.{Event}
use Rattle.vx_flow.specs.Event as event
use Rattle.vx_flow.specs.InterleavedState.{turn_after}
use Rattle.vx_flow.specs.Linearization.{linearized}
use Rattle.vx_history.specs.declared.cause.Cause.{Cause}
use Rattle.vx_history.specs.declared.cause.Cause.TheVariants as cause
use Rattle.vx_history.specs.Shown.{Timed}
use Rattle.vx_history.specs.CheckState.{CheckState, Kept, Free, kept_of, kept_with, kept_without}
use Rattle.vx_history.specs.Saying.{Said, Quiet, Happens, Comes, Faulty, says}

pub data Took : Type 0 where
  -- the line is taken: it gives these events, at most one, and this is known behind it
  Taken : (events : List Event) (after : CheckState) → Took
  -- it isn't, for this cause
  Spoiled : Cause → Took

-- the last calls behind an event: the end of a connection ends its own
abbrev pub kept_after : List Kept → Event → List Kept
kept_after kept (event.Down conn) = kept_without kept conn
kept_after kept _ = kept

-- what is known behind an event that leads the gateway of one thread to this state
abbrev pub led : CheckState → List Kept → Event → Option State → Took
led s kept e None = Spoiled cause.Entry
led s kept e (Some gateway) =
    Taken (e ∷ []) (record { gateway = gateway; turn = turn_after s.turn e; kept = kept; moment = s.moment; next = Free })

-- an event happens: the gateway of one thread takes the entry that it is, with all that the turn did, where it is one
abbrev pub happens : CheckState → List Kept → Event → Took
happens s kept e = led s kept e (along atomic_step (Some s.gateway) (linearized s.turn e))

abbrev pub taken_so : CheckState → Said → Took
taken_so s (Quiet next) = Taken [] (record s { next = next })
taken_so s (Happens e) = happens s (kept_after s.kept e) e
taken_so s (Comes conn xid asked) = happens s (kept_with s.kept (kept_of conn xid asked)) (event.Arrive conn asked s.moment)
taken_so s (Faulty why) = Spoiled why

-- behind the moment of a line, which its event has
abbrev pub at_moment : CheckState → Timed → CheckState
at_moment s t = record s { moment = if is_timed t.line then t.moment else s.moment }

abbrev pub is_early : CheckState → Timed → Bool
is_early s t = is_timed t.line && nat_lt t.moment s.moment

-- What comes of a line behind what is known of those before it. Where several causes are against it the first of these counts: version 2
-- has no such line; its moment is below that of an earlier line; and then what `says` finds, its place before its reply; and last, that
-- the gateway of one thread doesn't take the entry.
abbrev pub takes : CheckState → Option Timed → Took
takes s None = Spoiled cause.Form
takes s (Some t) = if is_early s t then Spoiled cause.Moment else taken_so (at_moment s t) (says (at_moment s t) s.next t.line)
