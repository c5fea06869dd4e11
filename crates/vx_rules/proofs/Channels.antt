-- Which channel a connection has after a change.
use Rattle.std.proofs.Common.{◌≡◌, ◌≢◌, ℕ, ◌<◌, ◌==◌, not, ◌&&◌, Bool, true, false, cond, List, [], ◌∷◌, map, find, Option, Some, None, refl, sym, ap, subst, ◌∙◌, arith}
use Rattle.std.specs.Prelude.{if◌then◌else◌, option_and_then}
use Rattle.std.specs.Option.{option_map, IfSome}
use Rattle.std.specs.List.{All, AllPairs}
use Rattle.std.proofs.lemmas.Bool.Decides.{nat_tests, Decides-eqb}
use Rattle.std.proofs.lemmas.Bool.{eq-eqb}
use Rattle.std.proofs.lemmas.List.{map-append}
use Rattle.std.proofs.lemmas.List.Elements.{All-tail}
use Rattle.std.proofs.lemmas.List.Kept.{AllPairs-filter}
use Rattle.std.proofs.lemmas.List.Quantifiers.{all_pairs_push}
use Rattle.vx_lemmas.proofs.Laws.Lists.{filter-map}
use Rattle.vx_rules.specs.SrqState.{SrqState, ChannelSlot, Channel, IsBelow, channel_at, connections, new_channel, sampled, taken_from, slot_with, slot_taken, risen_slot, is_rise, queued_on, handles_of}
use Rattle.vx_rules.specs.SrqLaws.{RiseQueues, RiseInOrder, SteadyQueuesNothing, SameLevelSame, ChannelBelow, NextIsNew, TakenHere, TakenElsewhere, ClosedHere, ClosedElsewhere, KeepsConnections, AddedRises, GoneRises}
use Rattle.vx_rules.proofs.Laws.Slots.{slot_with-stays, slot_taken-stays}

-- where a change keeps each connection, and changes the connection's channel by g, so does it with the first one
changed_first : (f : ChannelSlot → ChannelSlot) (g : Option Channel → Option Channel) (conn : ℕ) → g None ≡ None
    → ((p : ChannelSlot) → (f p).connection ≡ p.connection) → ((p : ChannelSlot) → p.connection ≡ conn → (f p).channel ≡ g p.channel)
    → (ps : List ChannelSlot) → option_and_then (λ (p : ChannelSlot). p.channel) (find (λ p. p.connection == conn) (map f ps)) ≡ g (option_and_then (λ (p : ChannelSlot). p.channel) (find (λ p. p.connection == conn) ps))
changed_first f g conn none same here [] = sym none
changed_first f g conn none same here (p ∷ ps) =
    let rest = changed_first f g conn none same here ps in
    ap (λ n. option_and_then (λ (q : ChannelSlot). q.channel) (cond (n == conn) (Some (f p)) (find (λ q. q.connection == conn) (map f ps)))) (same p)
    ∙ at (p.connection == conn) refl rest
  where
    at : (b : Bool) → (p.connection == conn) ≡ b
        → option_and_then (λ (q : ChannelSlot). q.channel) (find (λ q. q.connection == conn) (map f ps)) ≡ g (option_and_then (λ (q : ChannelSlot). q.channel) (find (λ q. q.connection == conn) ps))
        → option_and_then (λ (q : ChannelSlot). q.channel) (cond b (Some (f p)) (find (λ q. q.connection == conn) (map f ps)))
        ≡ g (option_and_then (λ (q : ChannelSlot). q.channel) (cond b (Some p) (find (λ q. q.connection == conn) ps)))
    at true e rest = here p ((Decides-eqb p.connection conn).0 e)
    at false e rest = rest

-- a change that keeps each connection keeps the list of them
same_connections : (f : ChannelSlot → ChannelSlot) → ((p : ChannelSlot) → (f p).connection ≡ p.connection) → (ps : List ChannelSlot) → map (λ (p : ChannelSlot). p.connection) (map f ps) ≡ map (λ p. p.connection) ps
same_connections f same [] = refl
same_connections f same (p ∷ ps) = ap (λ n. n ∷ map (λ (q : ChannelSlot). q.connection) (map f ps)) (same p) ∙ ap (λ ns. p.connection ∷ ns) (same_connections f same ps)

-- the test at another number
other_number : (n m other : ℕ) → n ≡ other → other ≢ m → (n == m) ≡ false
other_number n m other e apart = grind (arith, nat_tests, e, apart)

pub rise_queues : RiseQueues
rise_queues d conn off =
    ap (λ b. channel_at (if true && not b then record d { slots = map (risen_slot d.enables) d.slots; level = true } else record d { level = true }) conn) off
    ∙ changed_first (risen_slot d.enables) (option_and_then (queued_on (handles_of d.enables conn))) conn refl (λ p. refl)
    (λ p e. ap (λ n. option_and_then (queued_on (handles_of d.enables n)) p.channel) e) d.slots

pub rise_in_order : RiseInOrder
rise_in_order d conn rise = AllPairs-filter (λ a b. a.link < b.link) (λ e. e.on && (e.connection == conn)) d.enables rise

pub steady : SteadyQueuesNothing
steady d level apart = ap (λ b. let k : SrqState = if b then record d { slots = map (risen_slot d.enables) d.slots; level = level } else record d { level = level } in k.slots) apart

pub same_level : SameLevelSame
same_level d = at d.level refl
  where
    at : (level : Bool) → d.level ≡ level → sampled d d.level ≡ d
    at true e = ap (λ b. let k : SrqState = if b then record d { slots = map (risen_slot d.enables) d.slots } else d in k) (ap (λ b. b && not b) e)
    at false e = ap (λ b. let k : SrqState = if b then record d { slots = map (risen_slot d.enables) d.slots } else d in k) (ap (λ b. b && not b) e)

-- what holds of every channel holds of the one that is found
found_first : (P : Channel → Type 0) (conn : ℕ) (ps : List ChannelSlot) → All (λ p. IfSome p.channel P) ps → IfSome (option_and_then (λ (p : ChannelSlot). p.channel) (find (λ p. p.connection == conn) ps)) P
found_first P conn [] each = tt
found_first P conn (p ∷ ps) each = at (p.connection == conn) (found_first P conn ps (All-tail (λ q. IfSome q.channel P) p ps each))
  where
    at : (b : Bool) → IfSome (option_and_then (λ (q : ChannelSlot). q.channel) (find (λ q. q.connection == conn) ps)) P
        → IfSome (option_and_then (λ (q : ChannelSlot). q.channel) (cond b (Some p) (find (λ q. q.connection == conn) ps))) P
    at true rest = each 0 p (omega arith)
    at false rest = rest

pub channel_below : ChannelBelow
channel_below d conn s = found_first (IsBelow d.next_channel) conn d.slots s.channels

weaker : (P Q : Channel → Type 0) → ((c : Channel) → P c → Q c) → (o : Option Channel) → IfSome o P → IfSome o Q
weaker P Q w None h = tt
weaker P Q w (Some c) h = w c h

pub next_is_new : NextIsNew
next_is_new d conn s = weaker (IsBelow d.next_channel) (λ c. c.number ≢ d.next_channel) (λ c h e. absurd (omega (arith, h.2, e))) (channel_at d conn) (channel_below d conn s)

pub taken_here : TakenHere
taken_here d conn number =
    changed_first (slot_taken conn number) (option_map (taken_from number)) conn refl (slot_taken-stays conn number)
    (λ p e. ap (λ b. let q : ChannelSlot = if b then record p { channel = option_map (taken_from number) p.channel } else p in q.channel) (eq-eqb p.connection conn e)) d.slots

pub taken_elsewhere : TakenElsewhere
taken_elsewhere d conn other number apart =
    changed_first (slot_taken conn number) (λ o. o) other refl (slot_taken-stays conn number)
    (λ p e. ap (λ b. let q : ChannelSlot = if b then record p { channel = option_map (taken_from number) p.channel } else p in q.channel) (other_number p.connection conn other e apart)) d.slots

pub closed_here : ClosedHere
closed_here d conn =
    changed_first (slot_with conn None) (λ _. None) conn refl (slot_with-stays conn None)
    (λ p e. ap (λ b. let q : ChannelSlot = if b then record p { channel = None } else p in q.channel) (eq-eqb p.connection conn e)) d.slots

pub closed_elsewhere : ClosedElsewhere
closed_elsewhere d conn other channel apart =
    changed_first (slot_with conn channel) (λ o. o) other refl (slot_with-stays conn channel)
    (λ p e. ap (λ b. let q : ChannelSlot = if b then record p { channel = channel } else p in q.channel) (other_number p.connection conn other e apart)) d.slots

pub keeps_connections : KeepsConnections
keeps_connections = record {
  channel = λ d conn channel. same_connections (slot_with conn channel) (slot_with-stays conn channel) d.slots;
  made = λ d conn program version.
      let channel = Some (new_channel d.next_channel program version) in
      same_connections (slot_with conn channel) (slot_with-stays conn channel) d.slots;
  sample = λ d level.
      elim (is_rise d.level level) as (λ b. let k : SrqState = if b then record d { slots = map (risen_slot d.enables) d.slots; level = level } else record d { level = level } in connections k ≡ connections d) [
        | true ↦ same_connections (risen_slot d.enables) (λ p. refl) d.slots
        | false ↦ refl
      ];
  take = λ d conn number. same_connections (slot_taken conn number) (slot_taken-stays conn number) d.slots;
}

pub added_rises : AddedRises
added_rises d conn rise above =
    let p : ChannelSlot = record { connection = conn; channel = None } in
    subst (AllPairs (λ a b. a < b)) (sym (map-append (λ (q : ChannelSlot). q.connection) d.slots (p ∷ []))) (all_pairs_push (λ a b. a < b) (connections d) conn rise above)

pub gone_rises : GoneRises
gone_rises d conn rise =
    subst (AllPairs (λ a b. a < b)) (sym (filter-map (λ (p : ChannelSlot). p.connection) (λ n. not (n == conn)) d.slots)) (AllPairs-filter (λ a b. a < b) (λ n. not (n == conn)) (connections d) rise)
