-- To be believed.
-- Cutting a line into its words, and an address into its parts.
use Rattle.std.specs.Prelude.{◌≡◌, ◌≤◌, ℕ, ◌+◌, ◌==◌, List, [], ◌∷◌, take, drop, decimal, Option, Some, option_map, option_and_then, find, position}
use Rattle.std.specs.Str.{bytes_eq}
use Rattle.vx_calls.specs.declared.calls.Proc.{Proc}
use Rattle.vx_calls.specs.declared.calls.Proc.TheVariants as proc
use Rattle.vx_policy.specs.declared.rules.Peers.{Peers}
use Rattle.vx_policy.specs.declared.rules.Peers.TheVariants as peers
use Rattle.vx_policy.specs.declared.rules.Rule.{Rule}
use Rattle.vx_policy.specs.Grammar.{dot, slash, space, allow_text, peers_text, proc_text, place_text, IsPeers, IsNamed, IsPlace}

-- what stands in front of the first such byte, and what stands behind it; none where there is none
abbrev pub cut : ℕ → List ℕ → Option (List ℕ × List ℕ)
cut mark text = option_map (λ i. (take i text, drop (i + 1) text)) (position (λ b. b == mark) text)

-- the parts of a.b.c.d/n, as texts
abbrev pub parts : List ℕ → Option (List ℕ × List ℕ × List ℕ × List ℕ × List ℕ)
parts text =
    option_and_then (λ x.
    option_and_then (λ y.
    option_and_then (λ z. option_map (λ w. (x.0, y.0, z.0, w.0, w.1)) (cut slash z.1)) (cut dot y.1))
    (cut dot x.1))
    (cut dot text)

-- the four words of a rule, as texts
abbrev pub words : List ℕ → Option (List ℕ × List ℕ × List ℕ × List ℕ)
words text =
    option_and_then (λ x. option_and_then (λ y. option_map (λ z. (x.0, y.0, z.0, z.1)) (cut space y.1)) (cut space x.1)) (cut space text)

-- the peers under an address and a number of bits that are written so
abbrev pub IsUnder : List ℕ → List ℕ → List ℕ → List ℕ → List ℕ → Peers → Type 0
IsUnder a b c d bits peers.Any = ⊥
IsUnder a b c d bits (peers.Under p q r s n) =
    (p ≤ 255) × (a ≡ decimal p) × (q ≤ 255) × (b ≡ decimal q) × (r ≤ 255) × (c ≡ decimal r) × (s ≤ 255) × (d ≡ decimal s)
    × (n ≤ 32) × (bits ≡ decimal n)

-- a rule whose words are these
abbrev pub SaysBy : List ℕ → List ℕ → List ℕ → List ℕ → Rule → Type 0
SaysBy allow peers proc place r =
    (allow ≡ allow_text r.allow) × IsPeers r.peers × (peers ≡ peers_text r.peers) × IsNamed r.proc × (proc ≡ proc_text r.proc)
    × IsPlace r.place × (place ≡ place_text r.place)

-- the procedures that have a word
abbrev pub procedures : List Proc
procedures =
    proc.CreateLink ∷ proc.Write ∷ proc.Read ∷ proc.ReadStb ∷ proc.Trigger ∷ proc.Clear ∷ proc.Remote ∷ proc.Local ∷ proc.Lock
    ∷ proc.Unlock ∷ proc.EnableSrq ∷ proc.Docmd ∷ proc.DestroyLink ∷ proc.CreateIntr ∷ proc.DestroyIntr ∷ []

-- the procedure that a word names
abbrev pub named : List ℕ → Option Proc
named word = find (λ p. bytes_eq (proc_text (Some p)) word) procedures
