-- Laws of channels and their slots, proved.
use Rattle.std.proofs.Common.{◌≡◌, ℕ, Bool, true, false, cond, ◌==◌, Option, refl, map, ◌||◌, List, [], ◌∷◌, Some, ap, ◌∙◌}
use Rattle.std.specs.Option.{option_and_then}
use Rattle.std.specs.List.{find, list_any}
use Rattle.std.proofs.lemmas.Bool.{false≢true}
use Rattle.vx_rules.specs.SrqState.{ChannelSlot, Channel, slot_with, slot_taken, SrqState, risen_slot, is_rise, sampled}

-- a channel put or closed leaves whose slot it is
pub slot_with-stays : (conn : ℕ) (channel : Option Channel) (p : ChannelSlot) → (slot_with conn channel p).connection ≡ p.connection
slot_with-stays conn channel p = at (p.connection == conn)
  where
    at : (b : Bool) → (cond b (record p { channel = channel }) p).connection ≡ p.connection
    at true = refl
    at false = refl

-- so does a take
pub slot_taken-stays : (conn number : ℕ) (p : ChannelSlot) → (slot_taken conn number p).connection ≡ p.connection
slot_taken-stays conn number p = at (p.connection == conn) _
  where
    at : (b : Bool) (c : Option Channel) → (cond b (record p { channel = c }) p).connection ≡ p.connection
    at true c = refl
    at false c = refl

-- a sample takes no channel number
pub sampled-next : (d : SrqState) (level : Bool) → (sampled d level).next_channel ≡ d.next_channel
sampled-next d level = by (is_rise d.level level) where
  by : (b : Bool) → (cond b (record d { slots = map (risen_slot d.enables) d.slots; level = level }) (record d { level = level })).next_channel ≡ d.next_channel
  by true = refl
  by false = refl

-- the channel that is put is the connection's, where it has a slot
pub made-first : (conn : ℕ) (channel : Option Channel) (ps : List ChannelSlot) → list_any (λ p. p.connection == conn) ps ≡ true
    → option_and_then (λ (p : ChannelSlot). p.channel) (find (λ p. p.connection == conn) (map (slot_with conn channel) ps)) ≡ channel
made-first conn channel [] h = absurd (false≢true h)
made-first conn channel (p ∷ ps) h = by (p.connection == conn) refl h (made-first conn channel ps) where
  by : (b : Bool) → (p.connection == conn) ≡ b → (b || list_any (λ q. q.connection == conn) ps) ≡ true
      → (list_any (λ q. q.connection == conn) ps ≡ true
      → option_and_then (λ (q : ChannelSlot). q.channel) (find (λ q. q.connection == conn) (map (slot_with conn channel) ps)) ≡ channel)
      → option_and_then (λ (q : ChannelSlot). q.channel)
      (cond ((cond b (record p { channel = channel }) p).connection == conn) (Some (cond b (record p { channel = channel }) p))
      (find (λ q. q.connection == conn) (map (slot_with conn channel) ps)))
      ≡ channel
  by true is h more =
      ap (λ x. option_and_then (λ (q : ChannelSlot). q.channel) (cond x (Some (record p { channel = channel })) (find (λ q. q.connection == conn) (map (slot_with conn channel) ps)))) is
  by false is h more =
      ap (λ x. option_and_then (λ (q : ChannelSlot). q.channel) (cond x (Some p) (find (λ q. q.connection == conn) (map (slot_with conn channel) ps)))) is ∙ more h
