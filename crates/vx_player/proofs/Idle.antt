-- What events leave, one after the other: that the gateway is sound, and that a connection has no call.
use Rattle.std.proofs.Common.{◌≡◌, ◌≢◌, ◌==◌, ℕ, Bool, true, not, List, [], ◌∷◌, Option, Some, None, refl, sym, ap, ◌∙◌, subst}
use Rattle.std.specs.Option.{option_map}
use Rattle.std.specs.List.{list_all}
use Rattle.std.proofs.lemmas.Bool.{and_parts, false≢true, eq-eqb}
use Rattle.std.proofs.lemmas.Option.{none-some, same_Some}
use Rattle.vx_rules.specs.Lists.{along}
use Rattle.vx_rules.proofs.Laws.Lists.{along-none}
use Rattle.vx_rules.specs.State.{pending_at}
use Rattle.vx_flow.specs.Event.{Event}
use Rattle.vx_flow.specs.InterleavedState.{InterleavedState}
use Rattle.vx_flow.specs.InterleavedStep.{interleaved_step}
use Rattle.vx_flow.specs.Frames.{calls_by, mark_by}
use Rattle.vx_flow.specs.Sound.{IsSound}
use Rattle.vx_flow.proofs.Laws.{interleaved-frame, stays_sound-law}

-- what holds in a state and stays through each event that passes a test holds behind such events
pub along-keeps : (P : InterleavedState → Type 0) (test : Event → Bool) → ((f g : InterleavedState) (e : Event) → test e ≡ true → interleaved_step f e ≡ Some g → P f → P g)
    → (f g : InterleavedState) (es : List Event) → list_all test es ≡ true → along interleaved_step (Some f) es ≡ Some g → P f → P g
along-keeps P test keeps f g [] pass h holds = subst P (same_Some f g h) holds
along-keeps P test keeps f g (e ∷ es) pass h holds =
    let passes = and_parts (test e) (list_all test es) pass in
    by (interleaved_step f e) refl h (λ mid is. keeps f mid e passes.0 is holds) (λ mid so x. along-keeps P test keeps mid g es passes.1 x so)
  where
    by : (o : Option InterleavedState) → interleaved_step f e ≡ o → along interleaved_step o es ≡ Some g → ((mid : InterleavedState) → interleaved_step f e ≡ Some mid → P mid)
        → ((mid : InterleavedState) → P mid → along interleaved_step (Some mid) es ≡ Some g → P g) → P g
    by None is x first rest = absurd (none-some g (sym (along-none interleaved_step es) ∙ x))
    by (Some mid) is x first rest = rest mid (first mid is) x

-- a gateway that is sound
pub sound-along : (f g : InterleavedState) (es : List Event) → along interleaved_step (Some f) es ≡ Some g → IsSound f → IsSound g
sound-along f g es h sound = along-keeps IsSound (λ e. true) (λ f g e pass is s. stays_sound-law f g e s is) f g es (all es) h sound where
  all : (es : List Event) → list_all (λ e. true) es ≡ true
  all [] = refl
  all (e ∷ es) = all es

-- no call of this connection comes or goes
abbrev pub is_not : ℕ → Option ℕ → Bool
is_not n None = true
is_not n (Some m) = not (m == n)

abbrev pub spares_call : ℕ → Event → Bool
spares_call n e = is_not n (calls_by e)

-- then the event's connection is another
pub is-not : (n : ℕ) (o : Option ℕ) → is_not n o ≡ true → o ≢ Some n
is-not n None h = λ is. none-some n is
is-not n (Some m) h = λ is. absurd (false≢true (sym (ap not (eq-eqb m n (same_Some m n is))) ∙ h))

-- a connection without a call has none behind such an event
pub idle-stays : (n : ℕ) (f g : InterleavedState) (e : Event) → spares_call n e ≡ true → interleaved_step f e ≡ Some g → pending_at f.state.tables n ≡ None
    → pending_at g.state.tables n ≡ None
idle-stays n f g e spares h none =
    (interleaved-frame f g e h).calls n (is-not n (calls_by e) spares) ∙ ap (option_map (mark_by f.state.tables e)) none
