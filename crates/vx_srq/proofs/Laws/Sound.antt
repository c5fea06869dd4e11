-- Each change of a state of service requests keeps it as every state of service requests is.
use Rattle.std.proofs.Common.{◌≡◌, ℕ, nat_le, ◌+◌, ◌≤◌, ◌==◌, not, Bool, true, false, List, [], ◌∷◌, ◌++◌, map, filter, length, Option, Some, None, refl, ap, arith}
use Rattle.std.specs.Prelude.{if◌then◌else◌, option_and_then}
use Rattle.std.specs.Option.{option_map, IfSome}
use Rattle.std.proofs.lemmas.Bool.{leb-true}
use Rattle.std.proofs.lemmas.List.Elements.{All-append, All-cons, All-nil, All-map, All-filter, All-weaker}
use Rattle.std.proofs.lemmas.List.Kept.{AllPairs-filter}
use Rattle.std.proofs.lemmas.List.Filters.{length-filter_both}
use Rattle.vx_calls.specs.declared.limits.TheConstants.{LINK_MAX, CONNECTION_LAST}
use Rattle.vx_rules.specs.SrqState as srq_state
use Rattle.vx_rules.specs.declared.limits.TheConstants.{OUTBOX_MAX}
use Rattle.vx_rules.specs.SrqState.{Channel, ChannelSlot, Enable, SrqState, IsSound, IsBelow, HasChannelBelow, enable_put, slot_with, queued_on, risen_slot, handles_of, is_rise, taken_from, front_taken, slot_taken}
use Rattle.vx_rules.proofs.Laws.Rising.{Precedes, rise_put}

-- a filter keeps no more
pub filter_fewer : {X : Type 0} (p : X → Bool) (xs : List X) → length (filter (λ x. not (p x)) xs) ≤ length xs
filter_fewer p xs = omega (arith, length-filter_both p (λ x. not (p x)) (λ x. refl) xs)

-- a slot that is given a channel, or none
below_with : (next conn : ℕ) (channel : Option Channel) (p : ChannelSlot) → IfSome channel (IsBelow next) → HasChannelBelow next p → HasChannelBelow next (slot_with conn channel p)
below_with next conn channel p new old =
    elim (p.connection == conn) as (λ b. HasChannelBelow next (if b then record p { channel = channel } else p)) [ true ↦ new | false ↦ old ]

-- with a greater next number
below_more : (next : ℕ) (o : Option Channel) → IfSome o (IsBelow next) → IfSome o (IsBelow (next + 1))
below_more next None h = tt
below_more next (Some c) h = (h.0, h.1, omega (arith, h.2))

-- a channel that queues
below_queued : (next : ℕ) (handles : List (List ℕ)) (o : Option Channel) → IfSome o (IsBelow next) → IfSome (option_and_then (queued_on handles) o) (IsBelow next)
below_queued next handles None h = tt
below_queued next handles (Some c) h = at (nat_le (length (c.outbox ++ handles)) OUTBOX_MAX) refl
  where
    at : (b : Bool) → nat_le (length (c.outbox ++ handles)) OUTBOX_MAX ≡ b → IfSome (if b then Some (record c { outbox = c.outbox ++ handles }) else None) (IsBelow next)
    at true e = (leb-true (length (c.outbox ++ handles)) OUTBOX_MAX e, h.1, h.2)
    at false e = tt

-- a channel whose front is taken
below_front : (next : ℕ) (c : Channel) (outbox : List (List ℕ)) → c.outbox ≡ outbox → IsBelow next c → IsBelow next (front_taken c outbox)
below_front next c [] e h = h
below_front next c (handle ∷ rest) e h = (omega (arith, h.0, ap length e), h.1, h.2)

below_taken_from : (next number : ℕ) (o : Option Channel) → IfSome o (IsBelow next) → IfSome (option_map (taken_from number) o) (IsBelow next)
below_taken_from next number None h = tt
below_taken_from next number (Some c) h =
    elim (c.number == number) as (λ b. IsBelow next (if b then front_taken c c.outbox else c)) [ true ↦ below_front next c c.outbox refl h | false ↦ h ]

below_taken : (next conn number : ℕ) (p : ChannelSlot) → HasChannelBelow next p → HasChannelBelow next (slot_taken conn number p)
below_taken next conn number p h =
    elim (p.connection == conn) as (λ b. HasChannelBelow next (if b then record p { channel = option_map (taken_from number) p.channel } else p)) [
      | true ↦ below_taken_from next number p.channel h
      | false ↦ h
    ]

pub sound-with_slot : (d : SrqState) (conn : ℕ) → IsSound d → IsSound (srq_state.with_slot d conn)
sound-with_slot d conn s = record {
  links = s.links;
  few = s.few;
  first = s.first;
  last = s.last;
  channels = All-append (HasChannelBelow d.next_channel) d.slots _ s.channels (All-cons (HasChannelBelow d.next_channel) _ [] tt (All-nil (HasChannelBelow d.next_channel)));
}

pub sound-without_slot : (d : SrqState) (conn : ℕ) → IsSound d → IsSound (srq_state.without_slot d conn)
sound-without_slot d conn s = record {
  links = AllPairs-filter Precedes (λ e. not (e.connection == conn)) d.enables s.links;
  few = omega (arith, s.few, filter_fewer (λ e. e.connection == conn) d.enables);
  channels = All-filter (λ p. not (p.connection == conn)) (HasChannelBelow d.next_channel) d.slots s.channels;
  first = s.first;
  last = s.last;
}

pub sound-without_enable : (d : SrqState) (lid : ℕ) → IsSound d → IsSound (srq_state.without_enable d lid)
sound-without_enable d lid s = record {
  links = AllPairs-filter Precedes (λ e. not (e.link == lid)) d.enables s.links;
  few = omega (arith, s.few, filter_fewer (λ e. e.link == lid) d.enables);
  channels = s.channels;
  first = s.first;
  last = s.last;
}

pub sound-with_enable : (d : SrqState) (e : Enable) → IsSound d → length (enable_put e d.enables) ≤ LINK_MAX → IsSound (srq_state.with_enable d e)
sound-with_enable d e s few = record {
  links = rise_put e d.enables s.links;
  few = few;
  channels = s.channels;
  first = s.first;
  last = s.last;
}

pub sound-closed : (d : SrqState) (conn : ℕ) → IsSound d → IsSound (srq_state.with_channel d conn None)
sound-closed d conn s = record {
  links = s.links;
  few = s.few;
  first = s.first;
  last = s.last;
  channels = All-map (HasChannelBelow d.next_channel) (slot_with conn None) d.slots (All-weaker _ _ (λ p h. below_with d.next_channel conn None p tt h) d.slots s.channels);
}

pub sound-with_new_channel : (d : SrqState) (conn program version : ℕ) → IsSound d → d.next_channel ≤ CONNECTION_LAST → IsSound (srq_state.with_new_channel d conn program version)
sound-with_new_channel d conn program version s left = record {
  links = s.links;
  few = s.few;
  first = omega (arith, s.first);
  last = omega (arith, left);
  channels =
      let c = srq_state.new_channel d.next_channel program version in
      let next = d.next_channel + 1 in
      let new : IsBelow next c = (omega arith, s.first, omega arith) in
      All-map (HasChannelBelow next) (slot_with conn (Some c)) d.slots (All-weaker _ _ (λ p h. below_with next conn (Some c) p new (below_more d.next_channel p.channel h)) d.slots s.channels);
}

pub sound-risen : (d : SrqState) (level : Bool) → IsSound d → IsSound (record d { slots = map (risen_slot d.enables) d.slots; level = level })
sound-risen d level s = record {
  links = s.links;
  few = s.few;
  first = s.first;
  last = s.last;
  channels = All-map (HasChannelBelow d.next_channel) (risen_slot d.enables) d.slots
      (All-weaker _ _ (λ p h. below_queued d.next_channel (handles_of d.enables p.connection) p.channel h) d.slots s.channels);
}

pub sound-level : (d : SrqState) (level : Bool) → IsSound d → IsSound (record d { level = level })
sound-level d level s = record { links = s.links; few = s.few; channels = s.channels; first = s.first; last = s.last }

pub sound-taken : (d : SrqState) (conn number : ℕ) → IsSound d → IsSound (srq_state.taken d conn number)
sound-taken d conn number s = record {
  links = s.links;
  few = s.few;
  first = s.first;
  last = s.last;
  channels = All-map (HasChannelBelow d.next_channel) (slot_taken conn number) d.slots (All-weaker _ _ (λ p h. below_taken d.next_channel conn number p h) d.slots s.channels);
}
