-- The steps of a run that come once its connections are up: none is refused, and the same holds behind each.
use Rattle.std.proofs.Common.{◌≡◌, ◌==◌, ◌≤◌, ◌%◌, ◌^◌, ℕ, Bool, true, false, cond, not, List, [], ◌∷◌, ◌++◌, Option, Some, None, is_some, is_none, ◌⊎◌, inl, inr, refl, sym, ap, ◌∙◌, subst}
use Rattle.std.specs.Prelude.{◌&&◌}
use Rattle.std.specs.List.{list_any, list_all}
use Rattle.std.proofs.lemmas.Bool.{cond-true, cond-false, and_parts, and_from, false≢true}
use Rattle.vx_calls.specs.declared.calls.Role.{Role}
use Rattle.vx_calls.specs.declared.calls.Role.TheVariants as role
use Rattle.vx_calls.specs.Call.{Call, DeviceAbort}
use Rattle.vx_488.specs.declared.transfers.Transfer.{Transfer}
use Rattle.vx_record.specs.Fragments.{record_of}
use Rattle.vx_script.specs.declared.Cause.TheVariants as cause
use Rattle.vx_script.specs.Command.{Command, In, At, Poll, Sample, Take, Dial}
use Rattle.vx_rules.specs.Lists.{along}
use Rattle.vx_rules.specs.State.{role_at, pending_at, lives_as}
use Rattle.vx_rules.proofs.Laws.{role-lives}
use Rattle.vx_flow.specs.Event.{Event}
use Rattle.vx_flow.specs.Event as event
use Rattle.vx_flow.specs.InterleavedState.{InterleavedState}
use Rattle.vx_flow.specs.InterleavedStep.{interleaved_step}
use Rattle.vx_flow.specs.Poll.{Ending, Answered, Waited, Dialed, Polls, run_events, end_events}
use Rattle.vx_exchange.specs.SrqState.{Channel, channel_at}
use Rattle.vx_exchange.specs.Meaning.{Meaning, Asks, Aborts, by_call}
use Rattle.vx_gen.specs.Generating.{asking, on_core}
use Rattle.vx_gen.proofs.Laws.Spelled.{IsSpelled, message, abort-spelled}
use Rattle.vx_player.specs.Gateway.{Gateway}
use Rattle.vx_run.specs.Item.{Item}
use Rattle.vx_run.specs.Stream.{Whole, brought, kept_after}
use Rattle.vx_player.specs.Stage.{Stage, tables_of, refusal}
use Rattle.vx_run.specs.Forming.{refused_by}
use Rattle.vx_player.specs.Making.{CallMakes, AbortMakes, MessageMakes, RecordMakes, PieceMakes, ChannelMakes, Makes}
use Rattle.vx_player.specs.Play.{PlayerTakes, stream_after}
use Rattle.vx_player.proofs.PollEvents.{poll-all, along-both}
use Rattle.vx_player.proofs.Roles.{leaves_roles, roles-stay}
use Rattle.vx_player.proofs.Idle.{along-keeps, spares_call, idle-stays}
use Rattle.vx_player.proofs.Spelled.{message-means, message-brought}

-- one of the four core connections
abbrev pub IsCore : ℕ → Type 0
IsCore n = (n ≡ 1) ⊎ ((n ≡ 2) ⊎ ((n ≡ 3) ⊎ (n ≡ 4)))

-- it isn't the fifth
pub core-not : (n : ℕ) → IsCore n → not (n == 5) ≡ true
core-not n (inl e) = ap (λ m. not (m == 5)) e
core-not n (inr (inl e)) = ap (λ m. not (m == 5)) e
core-not n (inr (inr (inl e))) = ap (λ m. not (m == 5)) e
core-not n (inr (inr (inr e))) = ap (λ m. not (m == 5)) e

-- ---- the gateway

-- connections 1 to 4 are core ones, and connection 5 is an abort one, which has no call
pub record IsServing (f : InterleavedState) : Type 0 where
  pub core : (n : ℕ) → IsCore n → role_at f.state.tables n ≡ Some role.Core
  pub abort : role_at f.state.tables 5 ≡ Some role.Abort
  pub idle : pending_at f.state.tables 5 ≡ None

-- no connection comes or goes by an event, and no call of connection 5
abbrev leaves_all : Event → Bool
leaves_all e = leaves_roles e && spares_call 5 e

-- such an event leaves the connections so
serving-stays : (f g : InterleavedState) (e : Event) → leaves_all e ≡ true → interleaved_step f e ≡ Some g → IsServing f → IsServing g
serving-stays f g e leaves h s =
    let parts = and_parts (leaves_roles e) (spares_call 5 e) leaves in
    record {
      core = λ n is. roles-stay f g e n parts.0 h ∙ s.core n is;
      abort = roles-stay f g e 5 parts.0 h ∙ s.abort;
      idle = idle-stays 5 f g e parts.1 h s.idle;
    }

-- such events, one after the other
happens-serving : (before after : Gateway) (e : Event) (group : List Event) → group ≡ e ∷ [] → along interleaved_step (Some before.interleaved) group ≡ Some after.interleaved → leaves_all e ≡ true
    → IsServing before.interleaved → IsServing after.interleaved
happens-serving before after e group is h leaves s =
    serving-stays before.interleaved after.interleaved e leaves (subst (λ es. along interleaved_step (Some before.interleaved) es ≡ Some after.interleaved) is h) s

-- a poll on another connection than that
polls-serving : (old new : InterleavedState) (conn now : ℕ) (moves : List Transfer) (ending : Ending) → not (conn == 5) ≡ true → Polls old conn now moves ending new
    → IsServing old → IsServing new
polls-serving old new conn now moves ending other polls s =
    subst IsServing (sym polls.at_now)
    (by_tables (along-keeps IsServing leaves_all serving-stays old polls.last (run_events old conn now moves ++ end_events conn now ending)
    (poll-all leaves_all old conn now moves ending refl refl (ends ending))
    (along-both old polls.behind (Some polls.last) (run_events old conn now moves) (end_events conn now ending) polls.runs_to polls.ended) s))
  where
    ends : (ending : Ending) → list_all leaves_all (end_events conn now ending) ≡ true
    ends (Answered ran level reply) = and_from (not (conn == 5)) true other refl
    ends (Waited why) = refl
    ends (Dialed host port) = refl

    by_tables : IsServing polls.last → IsServing (record polls.last { state = record polls.last.state { moment = now } })
    by_tables h = record { core = h.core; abort = h.abort; idle = h.idle }

-- ---- the stage

-- the gateway is so, and each stream begins anew
pub record IsServed (s : Stage) : Type 0 where
  pub serving : IsServing s.gateway.interleaved
  pub streams : (conn : ℕ) → s.streams conn ≡ []

-- a command isn't refused at a stage, and leaves one that is so
pub record Goes (s : Stage) (command : Command) : Type 0 where
  pub allowed : refusal s command ≡ None
  pub leads : (item : Item) (t : Stage) → item.command ≡ command → PlayerTakes s item t → IsServed t

-- what a command made
pub made : (s t : Stage) (item : Item) (command : Command) → item.command ≡ command → PlayerTakes s item t → Makes s command item.group item.note t.gateway
made s t item command is takes = subst (λ c. Makes s c item.group item.note t.gateway) is takes.makes

-- the streams behind it
pub streams-left : (s t : Stage) (item : Item) (command : Command) → item.command ≡ command → PlayerTakes s item t → ((conn : ℕ) → stream_after s command conn ≡ [])
    → (conn : ℕ) → t.streams conn ≡ []
streams-left s t item command is takes left conn = takes.streams conn ∙ ap (λ c. stream_after s c conn) is ∙ left conn

-- ---- a moment, a sample, a take and a poll

-- a moment
pub goes-at : (s : Stage) (moment : ℕ) → IsServed s → Goes s (At moment)
goes-at s moment served = record {
  allowed = refl;
  leads = λ item t is takes. record {
    serving = subst (λ (g : Gateway). IsServing g.interleaved) (sym (made s t item (At moment) is takes).0.same) served.serving;
    streams = streams-left s t item (At moment) is takes served.streams;
  };
}

-- a sample
pub goes-sample : (s : Stage) → IsServed s → Goes s Sample
goes-sample s served = record {
  allowed = refl;
  leads = λ item t is takes.
      let m = made s t item Sample is takes in
      record {
        serving = happens-serving s.gateway t.gateway _ item.group m.events m.happens.events refl served.serving;
        streams = streams-left s t item Sample is takes served.streams;
      };
}

-- a take
pub goes-take : (s : Stage) (conn : ℕ) → IsCore conn → IsServed s → Goes s (Take conn)
goes-take s conn is_core served = record {
  allowed = cond-true (lives_as (tables_of s) conn role.Core) None (Some cause.Conn) (role-lives (tables_of s) conn role.Core (served.serving.core conn is_core));
  leads = λ item t is takes. record {
    serving = by (channel_at (tables_of s).srq_state conn) item t (made s t item (Take conn) is takes);
    streams = streams-left s t item (Take conn) is takes served.streams;
  };
}
  where
    by : (o : Option Channel) (item : Item) (t : Stage) → ChannelMakes s.gateway conn o item.group item.note t.gateway → IsServing t.gateway.interleaved
    by None item t (quiet, line) = subst (λ (g : Gateway). IsServing g.interleaved) (sym quiet.same) served.serving
    by (Some c) item t m = happens-serving s.gateway t.gateway _ item.group m.events m.happens.events refl served.serving

-- a poll of a call that is pending
pub goes-poll : (s : Stage) (conn : ℕ) → IsCore conn → is_some (pending_at (tables_of s) conn) ≡ true → IsServed s → Goes s (Poll conn)
goes-poll s conn is_core some served = record {
  allowed =
      cond-false (not (lives_as (tables_of s) conn role.Core)) (Some cause.Conn) _ (ap not (role-lives (tables_of s) conn role.Core (served.serving.core conn is_core)))
      ∙ cond-false (is_none (pending_at (tables_of s) conn)) (Some cause.Idle) None (none (pending_at (tables_of s) conn) some);
  leads = λ item t is takes.
      let m = made s t item (Poll conn) is takes in
      record {
        serving = polls-serving s.gateway.interleaved t.gateway.interleaved conn s.moment t.gateway.bus.means.moves m.ending (core-not conn is_core) m.over.polls served.serving;
        streams = streams-left s t item (Poll conn) is takes served.streams;
      };
}
  where
    none : {X : Type 0} (o : Option X) → is_some o ≡ true → is_none o ≡ false
    none None h = absurd (false≢true h)
    none (Some x) h = refl

-- ---- a record

-- one that comes whole where no call is pending isn't refused
in-allowed : (s : Stage) (conn : ℕ) (bytes text : List ℕ) (r : Role) → role_at (tables_of s) conn ≡ Some r → pending_at (tables_of s) conn ≡ None
    → s.streams conn ≡ [] → brought [] bytes ≡ Whole text → refusal s (In conn bytes) ≡ None
in-allowed s conn bytes text r live idle anew whole =
    cond-false (is_none (role_at (tables_of s) conn)) (Some cause.Conn) _ (ap is_none live)
    ∙ cond-false (is_some (pending_at (tables_of s) conn)) (Some cause.Busy) _ (ap is_some idle)
    ∙ ap refused_by (ap (λ kept. brought kept bytes) anew ∙ whole)

-- its stream begins anew
in-streams : (s : Stage) (conn : ℕ) (bytes text : List ℕ) → IsServed s → brought [] bytes ≡ Whole text → (n : ℕ) → stream_after s (In conn bytes) n ≡ []
in-streams s conn bytes text served whole n = by (n == conn) where
  kept : kept_after (brought (s.streams conn) bytes) (s.streams conn ++ bytes) ≡ []
  kept = ap (λ b. kept_after b (s.streams conn ++ bytes)) (ap (λ k. brought k bytes) (served.streams conn) ∙ whole)

  by : (b : Bool) → cond b (kept_after (brought (s.streams conn) bytes) (s.streams conn ++ bytes)) (s.streams n) ≡ []
  by true = kept
  by false = served.streams n

-- a call of the core channel, which is neither the null procedure nor a device_abort
pub record IsCoreCall (asked : Call) : Type 0 where
  pub spelled : IsSpelled role.Core asked
  pub asks : (xid : ℕ) → by_call xid asked ≡ Asks xid asked

-- what a record of a call makes, by what it means
message-made : (s t : Stage) (item : Item) (r : Role) (conn xid : ℕ) (asked : Call) (m : Meaning) → IsServed s → role_at (tables_of s) conn ≡ Some r → IsSpelled r asked
    → by_call (xid % 2 ^ 32) asked ≡ m → item.command ≡ asking r conn xid asked → PlayerTakes s item t → MessageMakes s.gateway conn s.moment m item.group item.note t.gateway
message-made s t item r conn xid asked m served live spelled means is takes =
    let text = message r xid asked in
    let whole : brought (s.streams conn) (record_of text) ≡ Whole text = ap (λ k. brought k (record_of text)) (served.streams conn) ∙ message-brought r xid asked spelled in
    let piece : PieceMakes s.gateway conn s.moment (Whole text) item.group item.note t.gateway =
    subst (λ b. PieceMakes s.gateway conn s.moment b item.group item.note t.gateway) whole (made s t item (asking r conn xid asked) is takes) in
    let recorded : RecordMakes s.gateway conn s.moment text (Some r) item.group item.note t.gateway =
    subst (λ o. RecordMakes s.gateway conn s.moment text o item.group item.note t.gateway) live piece in
    subst (λ k. MessageMakes s.gateway conn s.moment k item.group item.note t.gateway) (message-means r xid asked spelled ∙ means) recorded

-- a call to the core comes and is polled
pub asks-made : (s t : Stage) (item : Item) (conn xid : ℕ) (asked : Call) → IsServed s → IsCore conn → IsCoreCall asked → item.command ≡ on_core conn xid asked → PlayerTakes s item t
    → CallMakes s.gateway conn s.moment (xid % 2 ^ 32) asked item.group item.note t.gateway
asks-made s t item conn xid asked served is_core is_call is takes =
    message-made s t item role.Core conn xid asked (Asks (xid % 2 ^ 32) asked) served (served.serving.core conn is_core) is_call.spelled (is_call.asks (xid % 2 ^ 32)) is takes

-- a call to the core
pub goes-asking : (s : Stage) (conn xid : ℕ) (asked : Call) → IsCore conn → IsCoreCall asked → pending_at (tables_of s) conn ≡ None → IsServed s → Goes s (on_core conn xid asked)
goes-asking s conn xid asked is_core is_call idle served =
    let text = message role.Core xid asked in
    let whole = message-brought role.Core xid asked is_call.spelled in
    record {
      allowed = in-allowed s conn (record_of text) text role.Core (served.serving.core conn is_core) idle (served.streams conn) whole;
      leads = λ item t is takes.
          let m = asks-made s t item conn xid asked served is_core is_call is takes in
          let come = serving-stays s.gateway.interleaved m.come.interleaved (event.Arrive conn asked s.moment) (core-not conn is_core) m.comes.events served.serving in
          record {
            serving = polls-serving m.come.interleaved t.gateway.interleaved conn s.moment t.gateway.bus.means.moves m.polled.ending (core-not conn is_core) m.polled.over.polls come;
            streams = streams-left s t item (on_core conn xid asked) is takes (in-streams s conn (record_of text) text served whole);
          };
    }

-- a device_abort
pub goes-aborting : (s : Stage) (xid lid : ℕ) → lid ≤ 4 → IsServed s → Goes s (asking role.Abort 5 xid (DeviceAbort lid))
goes-aborting s xid lid small served =
    let asked = DeviceAbort lid in
    let text = message role.Abort xid asked in
    let spelled = abort-spelled lid small in
    let whole = message-brought role.Abort xid asked spelled in
    record {
      allowed = in-allowed s 5 (record_of text) text role.Abort served.serving.abort served.serving.idle (served.streams 5) whole;
      leads = λ item t is takes.
          let m : AbortMakes s.gateway 5 (xid % 2 ^ 32) lid item.group item.note t.gateway =
          message-made s t item role.Abort 5 xid asked (Aborts (xid % 2 ^ 32) lid) served served.serving.abort spelled refl is takes in
          record {
            serving = happens-serving s.gateway t.gateway (event.Abort 5 lid m.error) item.group m.events m.happens.events refl served.serving;
            streams = streams-left s t item (asking role.Abort 5 xid asked) is takes (in-streams s 5 (record_of text) text served whole);
          };
    }

-- ---- the dial of a call

-- one that was asked for isn't refused
pub goes-dial : (s : Stage) (conn : ℕ) (up : Bool) → IsCore conn → list_any (λ n. n == conn) s.gateway.interleaved.dialed ≡ true → IsServed s → Goes s (Dial conn up)
goes-dial s conn up is_core wanted served = record {
  allowed =
      cond-false (not (lives_as (tables_of s) conn role.Core)) (Some cause.Conn) _ (ap not (role-lives (tables_of s) conn role.Core (served.serving.core conn is_core)))
      ∙ cond-true (list_any (λ n. n == conn) s.gateway.interleaved.dialed) None (Some cause.Idle) wanted;
  leads = λ item t is takes.
      let m = made s t item (Dial conn up) is takes in
      record {
        serving = happens-serving s.gateway t.gateway _ item.group m.events m.happens.events (core-not conn is_core) served.serving;
        streams = streams-left s t item (Dial conn up) is takes served.streams;
      };
}
