-- To be believed.
-- What the rules of a policy say of a call.
use Rattle.std.specs.Prelude.{ℕ, ◌+◌, ◌-◌, ◌*◌, ◌/◌, ◌^◌, Bool, true, false, ◌&&◌, ◌==◌, if◌then◌else◌, List, [], ◌∷◌, Option, None, Some}
use Rattle.vx_calls.specs.declared.calls.Proc.{Proc}
use Rattle.vx_calls.specs.declared.calls.Proc.TheVariants as proc
use Rattle.vx_calls.specs.declared.targets.Target.{Target}
use Rattle.vx_calls.specs.declared.targets.Target.TheVariants as target
use Rattle.vx_policy.specs.declared.policy.Verdict.{Verdict}
use Rattle.vx_policy.specs.declared.rules.Peers.{Peers}
use Rattle.vx_policy.specs.declared.rules.Peers.TheVariants as peers
use Rattle.vx_policy.specs.declared.rules.Place.{Place}
use Rattle.vx_policy.specs.declared.rules.Place.TheVariants as place
use Rattle.vx_policy.specs.declared.rules.Rule.{Rule}

-- the IPv4 address a.b.c.d as a number, the first part in the high byte
abbrev pub address : ℕ → ℕ → ℕ → ℕ → ℕ
address a b c d = ((a * 256 + b) * 256 + c) * 256 + d

-- the first bits of an address of 32
abbrev pub first_bits : ℕ → ℕ → ℕ
first_bits bits number = number / 2 ^ (32 - bits)

-- the peers whose first bits are those of the rule's address
abbrev pub is_peer : Peers → ℕ → Bool
is_peer peers.Any peer = true
is_peer (peers.Under a b c d bits) peer = first_bits bits peer == first_bits bits (address a b c d)

-- the number of a procedure in its program (VXI-11, programs DEVICE_CORE and DEVICE_ASYNC)
abbrev pub proc_number : Proc → ℕ
proc_number proc.Null = 0
proc_number proc.DeviceAbort = 1
proc_number proc.CreateLink = 10
proc_number proc.Write = 11
proc_number proc.Read = 12
proc_number proc.ReadStb = 13
proc_number proc.Trigger = 14
proc_number proc.Clear = 15
proc_number proc.Remote = 16
proc_number proc.Local = 17
proc_number proc.Lock = 18
proc_number proc.Unlock = 19
proc_number proc.EnableSrq = 20
proc_number proc.Docmd = 22
proc_number proc.DestroyLink = 23
proc_number proc.CreateIntr = 25
proc_number proc.DestroyIntr = 26

-- the procedure that the rule names, or each
abbrev pub is_proc : Option Proc → Proc → Bool
is_proc None asked = true
is_proc (Some named) asked = proc_number named == proc_number asked

-- the interface, or the devices of a primary address; each target, and none, where the rule names none
abbrev pub is_place : Place → Option Target → Bool
is_place place.Any at = true
is_place place.Bus (Some target.Interface) = true
is_place (place.At p) (Some (target.Device q s)) = p == q
is_place _ _ = false

-- a rule matches a call of this procedure from this peer, to this target, or to none
abbrev pub matches : Rule → ℕ → Proc → Option Target → Bool
matches r peer asked at = is_peer r.peers peer && is_proc r.proc asked && is_place r.place at

-- The first rule that matches decides, by its word and its number, of rules that are counted from this number on. Where none
-- matches the call is denied, by rule 0.
abbrev pub judged_from : ℕ → List Rule → ℕ → Proc → Option Target → Verdict
judged_from number [] peer asked at = record { allow = false; rule = 0 }
judged_from number (r ∷ rs) peer asked at =
    if matches r peer asked at then record { allow = r.allow; rule = number } else judged_from (number + 1) rs peer asked at

-- what a policy says of a call
abbrev pub judged : List Rule → ℕ → Proc → Option Target → Verdict
judged rules peer asked at = judged_from 1 rules peer asked at
