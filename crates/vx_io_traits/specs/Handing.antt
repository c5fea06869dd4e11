-- What a wait for a stream that was handed over does to those that are left. Each is its connection, its channel and its link.
use Rattle.std.specs.Prelude.{◌≡◌, ℕ, ⊤, List, [], ◌∷◌, Option, None, Some}
use Rattle.vx_io_traits.specs.declared.listeners.Handed.{Handed}
use Rattle.vx_io_traits.specs.declared.listeners.Handed.TheVariants.{Stream, Ended}

-- a stream that comes is the first of those that are left, and none is left where no more come
abbrev pub HandsOn : {L : Type 0} → Option (List (ℕ × ℕ × L)) → Option (List (ℕ × ℕ × L)) → Handed L → Type 0
HandsOn None now answer = ⊤
HandsOn (Some before) None answer = ⊥
HandsOn (Some before) (Some now) (Stream conn chan link) = before ≡ (conn, chan, link) ∷ now
HandsOn (Some before) (Some now) Ended = (before ≡ []) × (now ≡ [])
