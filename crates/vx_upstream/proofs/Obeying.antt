-- Orders that are sent one after the other.
use Rattle.std.proofs.Common.{◌≡◌, ℕ, zero, suc, ◌<◌, List, [], ◌∷◌, ◌++◌, length, take, drop, get_or, refl, sym, ap, subst, inr, arith, Bool, true, false, Ok, Err}
use Rattle.vx_client.specs.State.{ClientState}
use Rattle.vx_client.specs.declared.answers.CallOpts.{CallOpts}
use Rattle.vx_client.specs.declared.answers.ClientErr.{ClientErr}
use Rattle.vx_client.specs.declared.answers.LinkMade.{LinkMade}
use Rattle.vx_upstream.specs.Sending.{LinkWords}
use Rattle.vx_upstream.specs.UpstreamState.{UpstreamState, Terms, opts_at}
use Rattle.vx_upstream.specs.Bringing.{access_of, Obeys, AllObeyed, BreaksOff, LinksAnew, BringsAnew, BringsOver, is_spent}
use Rattle.vx_upstream.specs.declared.orders.Order.{Order}

-- an element stands behind those before it
split-whole : (orders : List Order) (n : ℕ) (d : Order) → n < length orders → orders ≡ take n orders ++ get_or orders n d ∷ drop (suc n) orders
split-whole [] n d h = absurd (omega (arith, h))
split-whole (o ∷ os) zero d h = refl
split-whole (o ∷ os) (suc n) d h = ap (λ (xs : List Order). o ∷ xs) (split-whole os n d (omega (arith, h)))

module _ {L : Type 0} (w : LinkWords L) (lid : ℕ) (opts : CallOpts) where
  -- one more was answered with error 0
  pub obeyed-next : (orders : List Order) (n len : ℕ) (d : Order) (old mid new : ClientState L) → n < length orders → AllObeyed w lid opts old (take n orders) mid
      → Obeys w lid opts (get_or orders n d) mid new (Ok len) → AllObeyed w lid opts old (take (suc n) orders) new
  obeyed-next [] n len d old mid new h before last = absurd (omega (arith, h))
  obeyed-next (o ∷ os) zero len d old mid new h before last =
      (new, len, subst (λ (c : ClientState L). Obeys w lid opts o c new (Ok len)) before last, refl)
  obeyed-next (o ∷ os) (suc n) len d old mid new h (next, first, obeyed, before) last =
      (next, first, obeyed, obeyed-next os n len d next mid new (omega (arith, h)) before last)

  -- the next wasn't
  pub obeyed-broken : (orders : List Order) (n : ℕ) (d : Order) (e : ClientErr) (old mid new : ClientState L) → n < length orders → AllObeyed w lid opts old (take n orders) mid
      → Obeys w lid opts (get_or orders n d) mid new (Err e) → BreaksOff w lid opts orders e old new
  obeyed-broken orders n d e old mid new h before last = record {
    done = take n orders;
    last = get_or orders n d;
    rest = drop (suc n) orders;
    whole = split-whole orders n d h;
    mid = mid;
    obeyed = before;
    answered = last;
  }

-- ---- a try

module _ {L : Type 0} (w : LinkWords L) (orders : List Order) (old mid new : UpstreamState L) where
  -- over a link that was made anew
  module _ (made : mid ≡ record old { client = mid.client; made = mid.made }) (sent : new ≡ record mid { client = new.client })
      (linked : LinksAnew w old.terms old.client mid.client (Ok mid.made)) where
    linked-so : LinksAnew w old.terms old.client mid.client (Ok new.made)
    linked-so = subst (λ (m : LinkMade). LinksAnew w old.terms old.client mid.client (Ok m)) (sym (ap (λ (s : UpstreamState L). s.made) sent)) linked

    pub brought-anew : AllObeyed w mid.made.lid (opts_at mid.terms.patience 0) mid.client orders new.client → BringsAnew w old.terms orders true (access_of old) (access_of new)
    brought-anew obeyed = (
      mid.client,
      linked-so,
      subst (λ (t : Terms). AllObeyed w new.made.lid (opts_at t.patience 0) mid.client orders new.client) (ap (λ (s : UpstreamState L). s.terms) made)
          (subst (λ (m : LinkMade). AllObeyed w m.lid (opts_at mid.terms.patience 0) mid.client orders new.client) (sym (ap (λ (s : UpstreamState L). s.made) sent)) obeyed),
    )

    pub broken-anew : (e : ClientErr) → BreaksOff w mid.made.lid (opts_at mid.terms.patience 0) orders e mid.client new.client → BringsAnew w old.terms orders false (access_of old) (access_of new)
    broken-anew e broken = inr (
      mid.client,
      linked-so,
      (
        e,
        subst (λ (t : Terms). BreaksOff w new.made.lid (opts_at t.patience 0) orders e mid.client new.client) (ap (λ (s : UpstreamState L). s.terms) made)
            (subst (λ (m : LinkMade). BreaksOff w m.lid (opts_at mid.terms.patience 0) orders e mid.client new.client) (sym (ap (λ (s : UpstreamState L). s.made) sent)) broken),
      ),
    )

  -- over one that is made anew since the client was spent
  pub brought-over : (done : Bool) (e : ClientErr) → mid ≡ record old { client = mid.client } → true ≡ is_spent e
      → BreaksOff w old.made.lid (opts_at old.terms.patience 0) orders e old.client mid.client → BringsAnew w mid.terms orders done (access_of mid) (access_of new)
      → BringsOver w old.terms orders done (access_of old) (access_of new)
  brought-over true e sent spent broken anew =
      inr (e, sym spent, mid.client, broken, subst (λ (s : UpstreamState L). BringsAnew w s.terms orders true (record { client = mid.client; made = s.made }) (access_of new)) sent anew)
  brought-over false e sent spent broken anew =
      inr (e, sym spent, mid.client, broken, subst (λ (s : UpstreamState L). BringsAnew w s.terms orders false (record { client = mid.client; made = s.made }) (access_of new)) sent anew)
