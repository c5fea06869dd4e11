-- Laws of what serves the peers of a door, proved: what goes on by each peer goes on by a run; and where what serving a peer does to the
-- server tells so much of it, a run tells it.
use Rattle.std.proofs.Common.{◌≡◌, inl, inr, ◌+◌, ℕ, Bool, true, cond, List, [], ◌∷◌, map, fold, Option, None, Some, refl, sym, ap, ◌∙◌, subst}
use Rattle.std.specs.Prelude.{IfSome}
use Rattle.std.specs.Io.KnownBytes.{Consumes, IsAtEnd}
use Rattle.std.proofs.lemmas.List.{length-map}
use Rattle.vx_text.specs.Ends.{End}
use Rattle.vx_peers.specs.Serving.{Meeting, Meetings, cuts, is_cut, is_spent, RoseTogether}
use Rattle.vx_door.specs.Opening.{Opening}
use Rattle.vx_peers.specs.Running.{KeepsOwn}
use Rattle.vx_peers.specs.declared.stopping.DoorEnd.{DoorEnd}
use Rattle.vx_peers.specs.declared.words.Ask.{Ask}
use Rattle.vx_peers.specs.declared.stopping.WhyStopped.{WhyStopped}
use Rattle.vx_peers.specs.declared.stopping.WhyStopped.TheVariants as stop
use Rattle.vx_peers.specs.declared.serving.PortEnd.{PortEnd}
use Rattle.vx_peers.specs.declared.serving.PortEnd.TheVariants as port
use Rattle.vx_peers.specs.declared.serving.DoorStatus.{DoorStatus}
use Rattle.vx_peers.specs.declared.serving.DoorStatus.TheVariants as status
use Rattle.vx_peers.specs.Outcome.{PeerShows, PeerServes, StopsPeers, IsOpenServed, OpensAndServes, IsPortServed, IsPeerServed}

-- ---- what a peer has left

-- of a peer that gave these bytes, and then told its end where it told what it had left, nothing is left
pub ended-spent : (first now : Option (List ℕ)) (bytes : List ℕ) → Consumes first now bytes → IfSome first (λ all. IsAtEnd now) → is_spent first now ≡ true
ended-spent None now bytes gave end = refl
ended-spent (Some xs) None bytes gave end = refl
ended-spent (Some xs) (Some []) bytes gave end = refl
ended-spent (Some xs) (Some (y ∷ ys)) bytes gave end = cc

-- ---- what goes on

module _ {N S E : Type 0} (n : PeerShows N S E) (Holds : S → Type 0) (on : (s s' : S) (d d' : N) (how : E) → Holds s → n.did s d how s' d' → Holds s') where
  -- what holds of the server and goes on by each peer holds of it behind them
  each-on : (ms : List (Meeting S N E)) (server : S) (door : N) (server' : S) (door' : N) → Meetings n.stands n.tells n.waits n.door n.did server door ms server' door'
      → Holds server → Holds server'
  each-on [] server door server' door' each holds = subst Holds (sym each.0) holds
  each-on (m ∷ ms) server door server' door' each holds = each-on ms m.server m.door server' door' each.2 (on server m.server m.met m.door m.how holds each.1)

  -- and behind a run
  pub peers_on : (limit : ℕ) (how : DoorEnd) (number : ℕ) (server : S) (door : N) (server' : S) (door' : N) → PeerServes n limit how number server door server' door' → Holds server → Holds server'
  peers_on limit how number server door server' door' did holds = each-on did.meetings server door server' did.last did.each holds

  pub stops_on : (limit : ℕ) (why : WhyStopped) (number : ℕ) (server : S) (door : N) (server' : S) (door' : N) → StopsPeers n limit why number server door server' door' → Holds server → Holds server'
  stops_on limit (stop.Door how) number server door server' door' did holds = peers_on limit how number server door server' door' did.0 holds
  stops_on limit stop.Server number server door server' door' did holds = peers_on number _ number server door server' door' did.0 holds

  pub port_on : (o : Opening N) (ask : Ask) (server : S) (old : N) (end : PortEnd) (server' : S) (new : N) → IsPortServed n o ask server old end server' new → Holds server → Holds server'
  port_on o ask server old port.Unopened server' new did holds = subst Holds (sym did.1) holds
  port_on o ask server old (port.Served why number) server' new did holds = stops_on ask.number why number server did.opened server' new did.came holds

-- what no serving of a peer changes no run at a port changes
pub port_keeps : {N S E A : Type 0} (n : PeerShows N S E) (of : S → A) → ((s s' : S) (d d' : N) (how : E) → n.did s d how s' d' → of s' ≡ of s)
    → (o : Opening N) (ask : Ask) (server : S) (old : N) (end : PortEnd) (server' : S) (new : N) → IsPortServed n o ask server old end server' new → of server' ≡ of server
port_keeps n of keeps o ask server old end server' new did =
    port_on n (λ s. of s ≡ of server) (λ s s' d d' how same one. keeps s s' d d' how one ∙ same) o ask server old end server' new did refl

-- ---- what is told

-- a sum over what each becomes
sum_map : {X Y : Type 0} (to : X → Y) (f : Y → ℕ) (sum : ℕ) (xs : List X) → fold (λ s y. s + f y) sum (map to xs) ≡ fold (λ s x. s + f (to x)) sum xs
sum_map to f sum [] = refl
sum_map to f sum (x ∷ xs) = sum_map to f (sum + f (to x)) xs

-- `Holds` is what goes on by each peer. The last premise but one is that serving leaves the door's own counts, the last that what is
-- told tells whether the server is stopped.
module _ {N S T E : Type 0} (n : PeerShows N S E) (view : S → T) (tells : T → N → E → T → N → Type 0) (stopped : T → Bool) (Holds : S → Type 0)
    (so : (s s' : S) (d d' : N) (how : E) → Holds s → n.did s d how s' d' → tells (view s) d how (view s') d' × Holds s')
    (keeps : KeepsOwn n.door n.did) (alike : (s : S) → stopped (view s) ≡ n.stopped s) where
  -- the same door, with what is told of its server
  abbrev pub told : PeerShows N T E
  told = record { stands = n.stands; tells = n.tells; waits = n.waits; door = n.door; did = tells; own = n.own; whole = n.whole; stopped = stopped }

  -- what is told of a peer
  abbrev told_meeting : Meeting S N E → Meeting T N E
  told_meeting m = record { met = m.met; how = m.how; server = view m.server; door = m.door }

  -- each peer was met and served
  told_each : (ms : List (Meeting S N E)) (server : S) (door : N) (server' : S) (door' : N) → Holds server → Meetings n.stands n.tells n.waits n.door n.did server door ms server' door'
      → Meetings n.stands n.tells n.waits n.door tells (view server) door (map told_meeting ms) (view server') door'
  told_each [] server door server' door' holds each = (ap view each.0, each.1)
  told_each (m ∷ ms) server door server' door' holds each =
      let one = so server m.server m.met m.door m.how holds each.1 in
      (each.0, one.0, told_each ms m.server m.door server' door' one.1 each.2)

  -- as many were cut short
  told_cuts : (ms : List (Meeting S N E)) → cuts n.own n.whole n.door (map told_meeting ms) ≡ cuts n.own n.whole n.door ms
  told_cuts ms = sum_map told_meeting (λ m. cond (is_cut (n.own m.how) (n.whole m.how) (n.door m.met).left (n.door m.door).left) 1 0) 0 ms

  -- so many peers were served
  told_peers : (limit : ℕ) (how : DoorEnd) (number : ℕ) (server : S) (door : N) (server' : S) (door' : N) → Holds server → PeerServes n limit how number server door server' door'
      → PeerServes told limit how number (view server) door (view server') door'
  told_peers limit how number server door server' door' holds did = record {
    meetings = map told_meeting did.meetings;
    last = did.last;
    each = told_each did.meetings server door server' did.last holds did.each;
    number_is = did.number_is ∙ sym (length-map did.meetings told_meeting);
    within = did.within;
    stops = did.stops;
    faults = subst (λ k. RoseTogether k (n.door door) (n.door door')) (sym (told_cuts did.meetings)) did.faults;
    over = λ kept. did.over keeps;
  }

  -- why no more were
  told_stops : (limit : ℕ) (why : WhyStopped) (number : ℕ) (server : S) (door : N) (server' : S) (door' : N) → Holds server → StopsPeers n limit why number server door server' door'
      → StopsPeers told limit why number (view server) door (view server') door'
  told_stops limit (stop.Door how) number server door server' door' holds did =
      (told_peers limit how number server door server' door' holds did.0, alike server' ∙ did.1)
  told_stops limit stop.Server number server door server' door' holds did =
      (told_peers number _ number server door server' door' holds did.0, did.1, alike server' ∙ did.2)

  -- what became of a port
  pub told_port : (o : Opening N) (ask : Ask) (server : S) (old : N) (end : PortEnd) (server' : S) (new : N) → Holds server → IsPortServed n o ask server old end server' new
      → IsPortServed told o ask (view server) old end (view server') new
  told_port o ask server old port.Unopened server' new holds did = (did.0, ap view did.1)
  told_port o ask server old (port.Served why number) server' new holds did =
      record { opened = did.opened; opens = did.opens; came = told_stops ask.number why number server did.opened server' new holds did.came }

  -- the work at a port that was opened
  told_open : (ask : Ask) (server : S) (old : N) (server' : S) (new : N) (before after : End) (how : DoorStatus) → Holds server → IsOpenServed n ask server old server' new before after how
      → IsOpenServed told ask (view server) old (view server') new before after how
  told_open ask server old server' new before after status.Served holds did = record {
    ended = did.ended;
    number = did.number;
    whole = did.whole;
    serves = told_peers ask.number did.ended did.number server old server' new holds did.serves;
    written = did.written;
  }
  told_open ask server old server' new before after status.NetFailed holds did = record {
    number = did.number;
    serves = told_peers ask.number _ did.number server old server' new holds did.serves;
    same = did.same;
  }
  told_open ask server old server' new before after status.SinkFailed holds did = record {
    ended = did.ended;
    number = did.number;
    serves = told_peers ask.number did.ended did.number server old server' new holds did.serves;
    stops = did.stops;
  }
  told_open ask server old server' new before after _ holds did = did

  told_work : (o : Opening N) (ask : Ask) (server : S) (old : N) (server' : S) (new : N) (before after : End) (how : DoorStatus) → Holds server
      → OpensAndServes n o ask server old server' new before after how → OpensAndServes told o ask (view server) old (view server') new before after how
  told_work o ask server old server' new before after how holds did =
      record { opened = did.opened; opens = did.opens; came = told_open ask server did.opened server' new before after how holds did.came }

  -- a run over a door
  pub told_served : (o : Opening N) (ask : Ask) (server : S) (old : N) (server' : S) (new : N) (before after : End) (how : DoorStatus) → Holds server
      → IsPeerServed n o ask server old server' new before after how → IsPeerServed told o ask (view server) old (view server') new before after how
  told_served o ask server old server' new before after status.NetFailed holds (inl not) = inl (not.0, ap view not.1, not.2)
  told_served o ask server old server' new before after status.NetFailed holds (inr did) = inr (told_work o ask server old server' new before after status.NetFailed holds did)
  told_served o ask server old server' new before after how holds did = told_work o ask server old server' new before after how holds did
