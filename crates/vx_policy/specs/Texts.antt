-- To be believed.
-- The lines that a guard prints.
use Rattle.std.specs.Prelude.{ℕ, List, ◌++◌, codes, decimal}

-- a call of this connection was denied by the rule of this number
abbrev pub deny_line : ℕ → ℕ → List ℕ
deny_line conn rule = codes "deny " ++ decimal conn ++ codes " " ++ decimal rule ++ codes "\n"

-- so many peers were served
abbrev pub policy_served_line : ℕ → List ℕ
policy_served_line number = codes "served " ++ decimal number ++ codes "\n"

-- this line of the policy has another form than a rule
abbrev pub form_line : ℕ → List ℕ
form_line line = codes "fault line " ++ decimal line ++ codes " form\n"

-- there are more rules than a policy may have; it has more bytes than it may have
abbrev pub many_line : List ℕ
many_line = codes "fault many\n"

abbrev pub policy_long_line : List ℕ
policy_long_line = codes "fault long\n"

-- the words ask nothing
abbrev pub policy_usage_line : List ℕ
policy_usage_line = codes "usage: vxguard PORT N\n"
