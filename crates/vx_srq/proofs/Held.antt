-- What the fields of an `Srq` show after a call.
use Rattle.std.proofs.Common.{◌≡◌, ℕ, ◌==◌, Bool, true, false, not, List, [], ◌∷◌, ◌++◌, map, filter, length, find, Option, Some, None, refl, sym, ap, subst, ◌∙◌, arith}
use Rattle.std.specs.Prelude.{if◌then◌else◌, option_and_then}
use Rattle.std.specs.Option.{option_map, IfSome}
use Rattle.std.specs.List.{All}
use Rattle.std.specs.Vec.{with_items}
use Rattle.std.proofs.lemmas.List.{map-append, length-map, with_items_is}
use Rattle.std.proofs.lemmas.List.Elements.{All-append, All-cons, All-nil}
use Rattle.vx_lemmas.proofs.Laws.Lists.{find-map, filter-map}
use Rattle.vx_srq.specs.declared.slots.ChannelRow.{ChannelRow}
use Rattle.vx_srq.specs.declared.slots.SlotRow.{SlotRow}
use Rattle.vx_srq.specs.declared.srq.Srq.TheInside.{Inside}
use Rattle.vx_rules.specs.SrqState.{SrqState, ChannelSlot, IsSound, IsBelow, HasChannelBelow, channel_at}
use Rattle.vx_srq.specs.Shown.{slot_shown, enable_shown, channel_shown, SrqHasRoom}
use Rattle.vx_srq.specs.Told.{channel_told, told_of}
use Rattle.vx_srq.specs.Inside.{srq_state_of, IsSrqKept}
use Rattle.vx_srq.proofs.Laws.Sound.{sound-level}

-- the state of service requests with other slots
abbrev pub with_slots : Inside → List ChannelSlot → SrqState
with_slots t slots = record (srq_state_of t) { slots = slots }

-- what a push of a slot without a channel, or of none, leaves
pub record Added (t : Inside) (rows : List SlotRow) : Type 0 where
  pub room : All SrqHasRoom rows
  pub sound : IsSound (with_slots t (map slot_shown rows))

pub added : (t : Inside) (b : Bool) (rows : List SlotRow) (slot : SlotRow) → IsSrqKept t → SrqHasRoom slot → slot.channel ≡ None
    → rows ≡ (if b then t.slots.items ++ slot ∷ [] else t.slots.items) → Added t rows
added t b rows slot kept room none pushed = subst (Added t) (sym pushed) (at b)
  where
    Below : ChannelSlot → Type 0
    Below = HasChannelBelow t.next

    at : (b : Bool) → Added t (if b then t.slots.items ++ slot ∷ [] else t.slots.items)
    at false = record { room = kept.room; sound = kept.sound }
    at true = record {
      room = All-append SrqHasRoom t.slots.items (slot ∷ []) kept.room (All-cons SrqHasRoom slot [] room (All-nil SrqHasRoom));
      sound = record {
        links = kept.sound.links;
        few = kept.sound.few;
        first = kept.sound.first;
        last = kept.sound.last;
        channels = subst (All Below) (sym (map-append slot_shown t.slots.items (slot ∷ [])))
            (All-append Below (map slot_shown t.slots.items) (slot_shown slot ∷ []) kept.sound.channels
            (All-cons Below (slot_shown slot) [] (subst (λ o. IfSome (option_map (channel_shown slot.outbox.items) o) (IsBelow t.next)) (sym none) tt) (All-nil Below)));
      };
    }

-- the slots that were lent and came back changed by f
pub record ChangedTo (t : Inside) (f : ChannelSlot → ChannelSlot) (ws : List SlotRow) : Type 0 where
  pub same : (with_items t.slots ws).items ≡ ws
  pub shown : map slot_shown (with_items t.slots ws).items ≡ map f (map slot_shown t.slots.items)

pub changed_to : (t : Inside) (f : ChannelSlot → ChannelSlot) (lent ws : List SlotRow) → lent ≡ t.slots.items → map slot_shown ws ≡ map f (map slot_shown lent) → ChangedTo t f ws
changed_to t f lent ws here shown =
    let long : length ws ≡ t.slots.len =
    omega (arith, length-map ws slot_shown, ap length shown, length-map (map slot_shown lent) f, length-map lent slot_shown, ap length here, t.slots.ok.0) in
    let same = with_items_is t.slots ws long in
    record { same = same; shown = ap (map slot_shown) same ∙ shown ∙ ap (λ rows. map f (map slot_shown rows)) here }

-- the channel that is found among the rows is the state of service requests's
pub channel_found : (d : SrqState) (rows : List SlotRow) (conn : ℕ) (o : Option SlotRow) → map slot_shown rows ≡ d.slots → o ≡ find (λ r. r.conn == conn) rows
    → channel_at d conn ≡ option_and_then (λ r. (slot_shown r).channel) o
channel_found d rows conn o shown found =
    ap (λ ps. option_and_then (λ (p : ChannelSlot). p.channel) (find (λ p. p.connection == conn) ps)) (sym shown)
    ∙ ap (option_and_then (λ (p : ChannelSlot). p.channel)) (find-map slot_shown (λ p. p.connection == conn) rows ∙ ap (option_map slot_shown) (sym found))
    ∙ through o
  where
    through : (o : Option SlotRow) → option_and_then (λ (p : ChannelSlot). p.channel) (option_map slot_shown o) ≡ option_and_then (λ r. (slot_shown r).channel) o
    through None = refl
    through (Some r) = refl

-- what is told of a row's channel is told of the channel that it shows
pub told_shown : (r : SlotRow) → option_map told_of r.channel ≡ option_map channel_told (slot_shown r).channel
told_shown r = at r.channel
  where
    at : (o : Option ChannelRow) → option_map told_of o ≡ option_map channel_told (option_map (channel_shown r.outbox.items) o)
    at None = refl
    at (Some c) = refl

-- there are as many rows as enables of other links
pub others_shown : (t : Inside) (d : SrqState) (lid : ℕ) → srq_state_of t ≡ d → length (filter (λ r. not (r.lid == lid)) t.enables.items) ≡ length (filter (λ e. not (e.link == lid)) d.enables)
others_shown t d lid view =
    sym (length-map (filter (λ r. not (r.lid == lid)) t.enables.items) enable_shown)
    ∙ ap length (filter-map enable_shown (λ e. not (e.link == lid)) t.enables.items)
    ∙ ap (λ (k : SrqState). length (filter (λ e. not (e.link == lid)) k.enables)) view

-- another level
pub kept_level : (t : Inside) (level : Bool) → IsSrqKept t → IsSrqKept (record t { level = level })
kept_level t level kept = record { places = kept.places; room = kept.room; sound = sound-level (srq_state_of t) level kept.sound }
