-- The calls of a run's head, at the stages of its play: none is refused, and neither are the dials that two of them ask for.
use Rattle.std.proofs.Common.{◌≡◌, ◌≢◌, ◌≤◌, ◌+◌, ℕ, true, false, Some, None, refl, subst}
use Rattle.vx_calls.specs.Call.{Call}
use Rattle.vx_calls.specs.Reply as reply
use Rattle.vx_script.specs.Command.{Command, Dial}
use Rattle.vx_rules.specs.Lists.{along}
use Rattle.vx_rules.specs.Calls.{asks_dial}
use Rattle.vx_flow.specs.InterleavedStep.{interleaved_step}
use Rattle.vx_gen.specs.Generating.{on_core, channel_made}
use Rattle.vx_gen.proofs.Laws.Spelled.{channel-spelled}
use Rattle.vx_run.specs.Item.{Item}
use Rattle.vx_player.specs.Stage.{Stage, refusal}
use Rattle.vx_player.specs.Play.{PlayerTakes}
use Rattle.vx_player.proofs.Brief.{IsBrief}
use Rattle.vx_player.proofs.Resting.{IsResting, IsDialing, called-rests, called-dials, dial-rests}
use Rattle.vx_player.proofs.Served.{IsCore, IsServed, IsCoreCall, made, asks-made, goes-asking, goes-dial}

-- A command isn't refused at such stages, and leads to such others.
pub record Passes (P : Stage → Type 0) (command : Command) (Q : Stage → Type 0) : Type 0 where
  pub allowed : (s : Stage) → P s → refusal s command ≡ None
  pub leads : (s t : Stage) (item : Item) → P s → item.command ≡ command → PlayerTakes s item t → Q t

-- a stage between the calls of the head
pub record AtCall (most : ℕ) (Free : ℕ → Type 0) (s : Stage) : Type 0 where
  pub served : IsServed s
  pub rests : IsResting most Free s.gateway.interleaved

-- one at which the dial of a connection's call was asked for
pub record AtDial (most : ℕ) (Free : ℕ → Type 0) (conn : ℕ) (s : Stage) : Type 0 where
  pub served : IsServed s
  pub dials : IsDialing most Free conn s.gateway.interleaved

-- a call that needs neither the bus, nor a lock, nor a dial
pub call-passes : (most : ℕ) (Free : ℕ → Type 0) (conn xid : ℕ) (asked : Call) → IsCore conn → IsCoreCall asked → IsBrief asked → asks_dial asked ≡ false
    → Passes (AtCall most Free) (on_core conn xid asked) (AtCall (most + 1) Free)
call-passes most Free conn xid asked is_core is_call brief no_dial = record {
  allowed = λ s at. (goes-asking s conn xid asked is_core is_call (at.rests.idle conn) at.served).allowed;
  leads = λ s t item at is takes.
      let m = asks-made s t item conn xid asked at.served is_core is_call is takes in
      record {
        served = (goes-asking s conn xid asked is_core is_call (at.rests.idle conn) at.served).leads item t is takes;
        rests = called-rests most Free conn s.moment asked t.gateway.bus.means.moves m.polled.ending s.gateway.interleaved m.come.interleaved t.gateway.interleaved at.rests brief no_dial
            m.comes.events m.polled.over.polls;
      };
}

-- a create_intr_chan on a connection without a channel
pub channel-passes : (most : ℕ) (Free : ℕ → Type 0) (conn xid : ℕ) → IsCore conn → most ≤ 1000 → Free conn
    → Passes (AtCall most Free) (on_core conn xid channel_made) (AtDial most Free conn)
channel-passes most Free conn xid is_core small free =
    let is_call : IsCoreCall channel_made = record { spelled = channel-spelled; asks = λ xid. refl } in
    record {
      allowed = λ s at. (goes-asking s conn xid channel_made is_core is_call (at.rests.idle conn) at.served).allowed;
      leads = λ s t item at is takes.
          let m = asks-made s t item conn xid channel_made at.served is_core is_call is takes in
          record {
            served = (goes-asking s conn xid channel_made is_core is_call (at.rests.idle conn) at.served).leads item t is takes;
            dials = called-dials most Free conn s.moment 0x7F000001 0x0607B1 1 t.gateway.bus.means.moves m.polled.ending s.gateway.interleaved m.come.interleaved t.gateway.interleaved at.rests small free
                m.comes.events m.polled.over.polls;
          };
    }

-- its dial came up
pub dial-passes : (most : ℕ) (Free : ℕ → Type 0) (conn : ℕ) → IsCore conn → Passes (AtDial most Free conn) (Dial conn true) (AtCall (most + 1) (λ n. Free n × (conn ≢ n)))
dial-passes most Free conn is_core = record {
  allowed = λ s at. (goes-dial s conn true is_core at.dials.wanted at.served).allowed;
  leads = λ s t item at is takes.
      let m = made s t item (Dial conn true) is takes in
      record {
        served = (goes-dial s conn true is_core at.dials.wanted at.served).leads item t is takes;
        rests = dial-rests most Free conn s.moment (Some true) (reply.Error m.error) s.gateway.interleaved t.gateway.interleaved at.dials
            (subst (λ es. along interleaved_step (Some s.gateway.interleaved) es ≡ Some t.gateway.interleaved) m.events m.happens.events);
      };
}
