-- To be believed.
-- How a call of a user ends: for each status, what was sent and received, what was printed, and why.
use Rattle.std.specs.Prelude.{◌≡◌, ℕ, Bool, List, Option, Some, None, Result, Ok, Err, ◌⊎◌}
use Rattle.std.specs.Io.KnownBytes.{Appends, Keeps}
use Rattle.vx_io_traits.specs.Faults.{Rose}
use Rattle.vx_io_traits.specs.Stands.{Stays}
use Rattle.vx_io_traits.specs.Rung.{OnDialFailed}
use Rattle.vx_io_traits.specs.Reached.{AnswersAt}
use Rattle.vx_io_traits.specs.declared.ReadOut.{ReadOut}
use Rattle.vx_io_traits.specs.declared.WriteOut.{WriteOut}
use Rattle.vx_io_traits.specs.declared.dials.DialOut.{DialOut}
use Rattle.vx_io_traits.specs.declared.dials.DialOut.TheVariants.{Up, Failed}
use Rattle.vx_text.specs.Ends.{End}
use Rattle.vx_text.specs.Writing.{StopsIn}
use Rattle.vx_client.specs.State.{ClientState, new_client}
use Rattle.vx_client.specs.Asked.{Ask, ask_of}
use Rattle.vx_client.specs.Gaining.{Gain, ClientAsks, IsError}
use Rattle.vx_client.specs.Due.{line_due, client_usage_line, unreachable_line}
use Rattle.vx_client.specs.declared.answers.ClientErr.{ClientErr}
use Rattle.vx_client.specs.declared.answers.ClientErr.TheVariants as err
use Rattle.vx_client.specs.declared.run.ClientStatus.{ClientStatus}
use Rattle.vx_client.specs.declared.run.ClientStatus.TheVariants as status

-- the number of a status
abbrev pub client_status_number : ClientStatus → ℕ
client_status_number status.Done = 0
client_status_number status.Usage = 1
client_status_number status.Unreachable = 2
client_status_number status.Refused = 3
client_status_number status.Broken = 4
client_status_number status.NoMemory = 5
client_status_number status.SinkFailed = 6

-- a line was written by a call that ends so, or the sink failed in it
abbrev pub ClientPutsLine : ClientStatus → List ℕ → End → End → ClientStatus → Type 0
ClientPutsLine how line before after result =
    ((result ≡ how) × Appends before.bytes after.bytes line) ⊎ ((result ≡ status.SinkFailed) × StopsIn before after line)

-- no call was made on a client
abbrev pub IsUncalled : {L : Type 0} → ClientState L → Type 0
IsUncalled client = client ≡ new_client client.link

-- an error that isn't the device's: the call broke off
abbrev pub IsBreak : ClientErr → Type 0
IsBreak (err.Device n) = ⊥
IsBreak e = IsError e

-- the status of what a command came to
abbrev pub error_status : ClientErr → ClientStatus
error_status (err.Device n) = status.Refused
error_status e = status.Broken

abbrev pub result_status : {X : Type 0} → Result X ClientErr → ClientStatus
result_status (Ok x) = status.Done
result_status (Err e) = error_status e

-- the calls for what is asked came to this, and its line was written
pub record ClientTells {L : Type 0} (stands : L → List ℕ → List ℕ → Type 0) (left : L → Option (List ℕ)) (receives sends : L → ℕ)
    (ask : Ask) (old new : ClientState L) (before after : End) (result : Result Gain ClientErr) : Type 0 where
  pub asked : ClientAsks stands left receives sends old new ask.device ask.command result
  pub written : Appends before.bytes after.bytes (line_due result)

-- or the sink failed in it
pub record TellsFront {L : Type 0} (stands : L → List ℕ → List ℕ → Type 0) (left : L → Option (List ℕ)) (receives sends : L → ℕ)
    (ask : Ask) (old new : ClientState L) (before after : End) : Type 0 where
  pub result : Result Gain ClientErr
  pub asked : ClientAsks stands left receives sends old new ask.device ask.command result
  pub fails : StopsIn before after (line_due result)

-- how a call ends once there is a client
abbrev pub IsOver : {L : Type 0} → (L → List ℕ → List ℕ → Type 0) → (L → Option (List ℕ)) → (L → ℕ) → (L → ℕ)
    → Ask → ClientState L → ClientState L → End → End → ClientStatus → Type 0
-- each call gave its results, and the line of what was gained was written
IsOver stands left receives sends ask old new before after status.Done =
    (gain : Gain) × ClientTells stands left receives sends ask old new before after (Ok gain)
-- a call was answered with an error of the device, and the line of that error was written
IsOver stands left receives sends ask old new before after status.Refused =
    (number : ℕ) × ClientTells stands left receives sends ask old new before after (Err (err.Device number))
-- a call broke off, and the line of how it did was written
IsOver stands left receives sends ask old new before after status.Broken =
    (e : ClientErr) × IsBreak e × ClientTells stands left receives sends ask old new before after (Err e)
-- the sink failed, and a front of that line was written
IsOver stands left receives sends ask old new before after status.SinkFailed =
    TellsFront stands left receives sends ask old new before after
-- there was no memory: nothing was sent, and nothing written
IsOver stands left receives sends ask old new before after status.NoMemory = (new ≡ old) × (after ≡ before)
IsOver stands left receives sends ask old new before after _ = ⊥

-- what words ask is done by a client
abbrev pub EndsOver : {L : Type 0} → (L → List ℕ → List ℕ → Type 0) → (L → Option (List ℕ)) → (L → ℕ) → (L → ℕ)
    → List (List ℕ) → ClientState L → ClientState L → End → End → ℕ → Type 0
EndsOver stands left receives sends words old new before after number =
    (ask : Ask) × (ask_of words ≡ Some ask) × (how : ClientStatus) × (number ≡ client_status_number how) × IsOver stands left receives sends ask old new before after how

-- all that a reach's trait tells, that of its link with it
abbrev pub ReachTold : Type 0 → Type 1
ReachTold R = record {
  stands : R → List ℕ → List ℕ → Type 0;
  left : R → Option (List ℕ);
  receive_faults : R → ℕ;
  send_faults : R → ℕ;
  peers : R → Option (List ℕ);
  is_ready : R → Bool;
  receives : R → List ℕ → ReadOut → List ℕ → R → Type 0;
  sends : R → List ℕ → WriteOut → R → Type 0;
  refused : R → ℕ;
  place : R → Option (List ℕ × ℕ);
  tries : R → List ℕ → ℕ → DialOut → R → Type 0;
}

-- the server's host and port were tried once, with this answer, and no byte was sent or received
pub record Tries {R : Type 0} (r : ReachTold R) (ask : Ask) (old new : R) (answer : DialOut) : Type 0 where
  pub tried : r.tries old ask.host ask.port answer new
  pub answers : AnswersAt (r.place old) ask.host ask.port answer
  pub rose : OnDialFailed answer (Rose (r.refused old) (r.refused new))
  pub given : Keeps (r.left old) (r.left new)
  pub stays : Stays r.stands old new
  pub receives : r.receive_faults new ≡ r.receive_faults old
  pub sends : r.send_faults new ≡ r.send_faults old

-- a call over a new client over this reach, which comes back
pub record ClientServes {R : Type 0} (r : ReachTold R) (ask : Ask) (mid new : R) (before after : End) (how : ClientStatus) : Type 0 where
  pub last : ClientState R
  pub over : IsOver r.stands r.left r.receive_faults r.send_faults ask (new_client mid) last before after how
  pub back : new ≡ last.link

-- or there is no memory for a client
abbrev pub IsClientServed : {R : Type 0} → ReachTold R → Ask → R → R → End → End → ClientStatus → Type 0
IsClientServed r ask mid new before after how =
    ClientServes r ask mid new before after how ⊎ ((how ≡ status.NoMemory) × (new ≡ mid) × (after ≡ before))

-- the server was reached, and the rest is a call over a new client
pub record Reaches {R : Type 0} (r : ReachTold R) (words : List (List ℕ)) (old new : R) (before after : End) (how : ClientStatus) : Type 0 where
  pub ask : Ask
  pub asks : ask_of words ≡ Some ask
  pub mid : R
  pub tries : Tries r ask old mid Up
  pub serves : ClientServes r ask mid new before after how

-- the server was not reached
pub record Misses {R : Type 0} (r : ReachTold R) (words : List (List ℕ)) (old new : R) : Type 0 where
  pub ask : Ask
  pub asks : ask_of words ≡ Some ask
  pub tries : Tries r ask old new Failed

-- there was no memory for a client
pub record LacksClient {R : Type 0} (r : ReachTold R) (words : List (List ℕ)) (old new : R) (before after : End) : Type 0 where
  pub ask : Ask
  pub asks : ask_of words ≡ Some ask
  pub tries : Tries r ask old new Up
  pub unwritten : after ≡ before

-- how a call ends
abbrev pub IsClientRun : {R : Type 0} → ReachTold R → List (List ℕ) → R → R → End → End → ClientStatus → Type 0
-- the words have another form: nothing is tried, and the usage line was written
IsClientRun r words old new before after status.Usage = (ask_of words ≡ None) × (new ≡ old) × Appends before.bytes after.bytes client_usage_line
-- the server was not reached, and the line that says so was written
IsClientRun r words old new before after status.Unreachable = Misses r words old new × Appends before.bytes after.bytes unreachable_line
-- the sink failed in either line, or in that of what the command came to
IsClientRun r words old new before after status.SinkFailed =
    ((ask_of words ≡ None) × (new ≡ old) × StopsIn before after client_usage_line)
    ⊎ (Misses r words old new × StopsIn before after unreachable_line)
    ⊎ Reaches r words old new before after status.SinkFailed
-- there was no memory for a client, or for its calls: nothing was sent, and nothing written
IsClientRun r words old new before after status.NoMemory =
    LacksClient r words old new before after ⊎ Reaches r words old new before after status.NoMemory
IsClientRun r words old new before after how = Reaches r words old new before after how

-- what is asked ends so, whatever words ask it
abbrev pub IsClientAskRun : {R : Type 0} → ReachTold R → Ask → R → R → End → End → ClientStatus → Type 0
IsClientAskRun r ask old new before after how = (words : List (List ℕ)) → ask_of words ≡ Some ask → IsClientRun r words old new before after how

-- it ends with the number of its status
abbrev pub ClientEndsRun : {R : Type 0} → ReachTold R → List (List ℕ) → R → R → End → End → ℕ → Type 0
ClientEndsRun r words old new before after number = (how : ClientStatus) × (number ≡ client_status_number how) × IsClientRun r words old new before after how
