-- To be believed.
-- The grammar of a policy: how each rule is spelled.
use Rattle.std.specs.Prelude.{◌≡◌, ◌≤◌, ◌⊎◌, ℕ, ⊤, Bool, true, false, ◌==◌, List, [], ◌∷◌, ◌++◌, codes, decimal, Option, None, Some}
use Rattle.vx_calls.specs.declared.calls.Proc.{Proc}
use Rattle.vx_calls.specs.declared.calls.Proc.TheVariants as proc
use Rattle.vx_policy.specs.declared.rules.Peers.{Peers}
use Rattle.vx_policy.specs.declared.rules.Peers.TheVariants as peers
use Rattle.vx_policy.specs.declared.rules.Place.{Place}
use Rattle.vx_policy.specs.declared.rules.Place.TheVariants as place
use Rattle.vx_policy.specs.declared.rules.Rule.{Rule}

-- the bytes between the words of a rule, between the parts of an address, and before the number of bits
abbrev pub space : ℕ
space = 32

abbrev pub dot : ℕ
dot = 46

abbrev pub slash : ℕ
slash = 47

abbrev pub allow_text : Bool → List ℕ
allow_text true = codes "allow"
allow_text false = codes "deny"

-- each peer, or those of an address and a number of bits, in decimal numbers without leading zeros
abbrev pub peers_text : Peers → List ℕ
peers_text peers.Any = codes "*"
peers_text (peers.Under a b c d bits) =
    decimal a ++ (dot ∷ decimal b ++ (dot ∷ decimal c ++ (dot ∷ decimal d ++ (slash ∷ decimal bits))))

-- each procedure, or the one of a word; the null procedure and device_abort have none
abbrev pub proc_text : Option Proc → List ℕ
proc_text None = codes "*"
proc_text (Some proc.CreateLink) = codes "create"
proc_text (Some proc.Write) = codes "write"
proc_text (Some proc.Read) = codes "read"
proc_text (Some proc.ReadStb) = codes "stb"
proc_text (Some proc.Trigger) = codes "trigger"
proc_text (Some proc.Clear) = codes "clear"
proc_text (Some proc.Remote) = codes "remote"
proc_text (Some proc.Local) = codes "local"
proc_text (Some proc.Lock) = codes "lock"
proc_text (Some proc.Unlock) = codes "unlock"
proc_text (Some proc.EnableSrq) = codes "srq"
proc_text (Some proc.Docmd) = codes "docmd"
proc_text (Some proc.DestroyLink) = codes "destroy"
proc_text (Some proc.CreateIntr) = codes "intr"
proc_text (Some proc.DestroyIntr) = codes "unintr"
proc_text (Some proc.Null) = []
proc_text (Some proc.DeviceAbort) = []

abbrev pub place_text : Place → List ℕ
place_text place.Any = codes "*"
place_text place.Bus = codes "bus"
place_text (place.At p) = decimal p

-- how a rule is spelled
abbrev pub rule_text : Rule → List ℕ
rule_text r = allow_text r.allow ++ (space ∷ peers_text r.peers ++ (space ∷ proc_text r.proc ++ (space ∷ place_text r.place)))

-- what a rule may name
abbrev pub IsPeers : Peers → Type 0
IsPeers peers.Any = ⊤
IsPeers (peers.Under a b c d bits) = (a ≤ 255) × (b ≤ 255) × (c ≤ 255) × (d ≤ 255) × (bits ≤ 32)

abbrev pub IsNamed : Option Proc → Type 0
IsNamed (Some proc.Null) = ⊥
IsNamed (Some proc.DeviceAbort) = ⊥
IsNamed _ = ⊤

abbrev pub IsPlace : Place → Type 0
IsPlace (place.At p) = p ≤ 30
IsPlace _ = ⊤

-- a line says this rule
pub record PolicySays (line : List ℕ) (r : Rule) : Type 0 where
  pub peers : IsPeers r.peers
  pub proc : IsNamed r.proc
  pub place : IsPlace r.place
  pub spelled : line ≡ rule_text r

-- an empty line, and one that begins with #, say nothing
abbrev pub is_skipped : List ℕ → Bool
is_skipped [] = true
is_skipped (b ∷ bs) = b == 35

-- no rule of which the line is the text, nor a line to skip
pub record IsOther (line : List ℕ) : Type 0 where
  pub kept : is_skipped line ≡ false
  pub other : (r : Rule) → PolicySays line r → ⊥

-- these lines say these rules, in order, but for those that say nothing
abbrev pub Reads : List (List ℕ) → List Rule → Type 0
Reads [] [] = ⊤
Reads [] (r ∷ rs) = ⊥
Reads (line ∷ later) [] = (is_skipped line ≡ true) × Reads later []
Reads (line ∷ later) (r ∷ rs) = ((is_skipped line ≡ true) × Reads later (r ∷ rs)) ⊎ (PolicySays line r × Reads later rs)
