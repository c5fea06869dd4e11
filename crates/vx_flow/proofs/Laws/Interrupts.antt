-- Which channel a connection has after each change of the state of service requests, and what a rise does to it.
use Rattle.std.proofs.Common.{◌≡◌, ◌≢◌, ◌==◌, ℕ, Bool, true, false, cond, ◌⊎◌, inl, inr, [], ◌∷◌, map, Option, Some, None, refl, sym, ap, ◌∙◌}
use Rattle.std.specs.Prelude.{not, nat_le, option_and_then}
use Rattle.std.specs.Option.{option_map}
use Rattle.std.proofs.lemmas.Bool.{eqb-true, ne_eqb, cases_eq}
use Rattle.std.proofs.lemmas.Option.{same_Some}
use Rattle.vx_lemmas.proofs.Laws.Conditions.{chosen}
use Rattle.vx_lemmas.proofs.Laws.Lists.{found_passes, find-filter, find_append-some, find_append-none, find_filter-gone, find_map-same}
use Rattle.vx_rules.specs.SrqState.{SrqState, ChannelSlot, Channel, slot_at, channel_at, slot_with, with_channel, with_slot, without_slot, risen_slot, queued_on, handles_of, sampled, taken_from, slot_taken, taken}
use Rattle.vx_rules.proofs.Laws.Slots.{slot_with-stays, slot_taken-stays}
use Rattle.vx_rules.specs.State.{State}
use Rattle.vx_flow.specs.Laws.{ClosedLaw}

-- the channel of a port that is found
abbrev pub channel_of : Option ChannelSlot → Option Channel
channel_of o = option_and_then (λ p. p.channel) o

-- ---- rises

-- a rise leaves for each connection's channel the queued one, or none
risen-channel : (d : SrqState) (conn : ℕ) (o : Option ChannelSlot) → slot_at d conn ≡ o
    → channel_of (option_map (risen_slot d.enables) o) ≡ option_and_then (queued_on (handles_of d.enables conn)) (channel_of o)
risen-channel d conn None is = refl
risen-channel d conn (Some p) is =
    ap (λ n. option_and_then (queued_on (handles_of d.enables n)) p.channel) (eqb-true p.connection conn (found_passes (λ p. p.connection == conn) d.slots p is))

pub channel-risen : (d : SrqState) (level : Bool) (conn : ℕ)
    → channel_at (record d { slots = map (risen_slot d.enables) d.slots; level = level }) conn ≡ option_and_then (queued_on (handles_of d.enables conn)) (channel_at d conn)
channel-risen d level conn =
    ap channel_of (find_map-same (λ p. p.connection == conn) (risen_slot d.enables) (λ p. refl) d.slots) ∙ risen-channel d conn (slot_at d conn) refl

-- a rise closes exactly the channels whose outbox would be too long
pub closed_law-holds : ClosedLaw
closed_law-holds s t now conn c off at h =
    let d = s.tables.srq_state in
    let parts = chosen (nat_le s.moment now) (Some (record s { tables = record s.tables { srq_state = sampled d true }; moment = now })) t h in
    ap (λ (u : State). channel_at u.tables.srq_state conn) (sym (same_Some _ t parts.1))
    ∙ ap (λ b. channel_at (cond b (record d { slots = map (risen_slot d.enables) d.slots; level = true }) (record d { level = true })) conn) (ap not off)
    ∙ channel-risen d true conn
    ∙ ap (option_and_then (queued_on (handles_of d.enables conn))) at

-- ---- the other changes

-- a connection that comes up has no channel, and the others keep theirs
pub channel-up : (d : SrqState) (conn mine : ℕ) → channel_at (with_slot d conn) mine ≡ channel_at d mine
channel-up d conn mine = by (slot_at d mine) refl where
  new : ChannelSlot
  new = record { connection = conn; channel = None }

  none : (b : Bool) → channel_of (cond b (Some new) None) ≡ None
  none true = refl
  none false = refl

  by : (o : Option ChannelSlot) → slot_at d mine ≡ o → channel_at (with_slot d conn) mine ≡ channel_of o
  by None e = ap channel_of (find_append-none (λ p. p.connection == mine) d.slots (new ∷ []) e) ∙ none (conn == mine)
  by (Some p) e = ap channel_of (find_append-some (λ p. p.connection == mine) d.slots (new ∷ []) p e)

-- a connection that went has none, and each other one keeps its own
pub channel-down : (d : SrqState) (conn mine : ℕ) → (channel_at (without_slot d conn) mine ≡ channel_at d mine) ⊎ (channel_at (without_slot d conn) mine ≡ None)
channel-down d conn mine = by (cases_eq conn mine) where
  by : (conn ≡ mine) ⊎ (conn ≡ mine → ⊥) → (channel_at (without_slot d conn) mine ≡ channel_at d mine) ⊎ (channel_at (without_slot d conn) mine ≡ None)
  by (inl e) =
      inr (ap (channel_at (without_slot d conn)) (sym e) ∙ ap channel_of (find_filter-gone (λ p. p.connection == conn) (λ p. not (p.connection == conn)) (λ p e. ap not e) d.slots))
  by (inr ne) =
      inl (ap channel_of (find-filter (λ p. p.connection == mine) (λ p. not (p.connection == conn))
      (λ p e. ap not (ne_eqb p.connection conn (λ f. ne (sym f ∙ eqb-true p.connection mine e)))) d.slots))

-- another connection's channel stays where one is put or closed
pub channel-other : (d : SrqState) (conn n : ℕ) (channel : Option Channel) → conn ≢ n → channel_at (with_channel d conn channel) n ≡ channel_at d n
channel-other d conn n channel ne =
    ap channel_of (find_map-same (λ p. p.connection == n) (slot_with conn channel) (λ p. ap (λ m. m == n) (slot_with-stays conn channel p)) d.slots)
    ∙ by (slot_at d n) refl
  where
    by : (o : Option ChannelSlot) → slot_at d n ≡ o → channel_of (option_map (slot_with conn channel) o) ≡ channel_of o
    by None is = refl
    by (Some p) is =
        ap (λ b. (cond b (record p { channel = channel }) p).channel)
        (ne_eqb p.connection conn (λ f. ne (sym f ∙ eqb-true p.connection n (found_passes (λ q. q.connection == n) d.slots p is))))

-- the connection has the channel, where it lives, and each other one keeps its own
pub channel-put : (d : SrqState) (conn mine : ℕ) (channel : Option Channel)
    → (channel_at (with_channel d conn channel) mine ≡ channel_at d mine) ⊎ (channel_at (with_channel d conn channel) mine ≡ channel)
channel-put d conn mine channel =
    by (slot_at d mine) (ap channel_of (find_map-same (λ p. p.connection == mine) (slot_with conn channel) (λ p. ap (λ n. n == mine) (slot_with-stays conn channel p)) d.slots))
  where
    at : (p : ChannelSlot) (b : Bool) → (channel_at (with_channel d conn channel) mine ≡ channel_of (Some (cond b (record p { channel = channel }) p)))
        → (channel_at (with_channel d conn channel) mine ≡ p.channel) ⊎ (channel_at (with_channel d conn channel) mine ≡ channel)
    at p true h = inr h
    at p false h = inl h

    by : (o : Option ChannelSlot) → channel_at (with_channel d conn channel) mine ≡ channel_of (option_map (slot_with conn channel) o)
        → (channel_at (with_channel d conn channel) mine ≡ channel_of o) ⊎ (channel_at (with_channel d conn channel) mine ≡ channel)
    by None h = inl h
    by (Some p) h = at p (p.connection == conn) h

-- a take leaves the connection's channel without its front, and each other one as it was
pub channel-taken : (d : SrqState) (conn number mine : ℕ)
    → channel_at (taken d conn number) mine ≡ cond (mine == conn) (option_map (taken_from number) (channel_at d mine)) (channel_at d mine)
channel-taken d conn number mine =
    ap channel_of (find_map-same (λ p. p.connection == mine) (slot_taken conn number) (λ p. ap (λ n. n == mine) (slot_taken-stays conn number p)) d.slots)
    ∙ by (slot_at d mine) refl
  where
    none : (b : Bool) → ◌≡◌ {A = Option Channel} None (cond b None None)
    none true = refl
    none false = refl

    at : (p : ChannelSlot) (b : Bool) → channel_of (Some (cond b (record p { channel = option_map (taken_from number) p.channel }) p)) ≡ cond b (option_map (taken_from number) p.channel) p.channel
    at p true = refl
    at p false = refl

    by : (o : Option ChannelSlot) → slot_at d mine ≡ o
        → channel_of (option_map (slot_taken conn number) o) ≡ cond (mine == conn) (option_map (taken_from number) (channel_of o)) (channel_of o)
    by None e = none (mine == conn)
    by (Some p) e =
        at p (p.connection == conn)
        ∙ ap (λ n. cond (n == conn) (option_map (taken_from number) p.channel) p.channel) (eqb-true p.connection mine (found_passes (λ p. p.connection == mine) d.slots p e))
