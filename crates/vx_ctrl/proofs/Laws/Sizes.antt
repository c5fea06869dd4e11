-- How many transfers of each kind the plan of a job may want.
use Rattle.std.proofs.Common.{◌≡◌, ℕ, ◌+◌, ◌≤◌, min, Bool, true, false, not, cond, leb, ◌==◌, List, [], ◌∷◌, ◌++◌, map, length, Option, Some, None, refl, ap, subst, arith}
use Rattle.std.proofs.lemmas.Bool.{eqb-false, le-leb}
use Rattle.vx_calls.specs.declared.limits.TheConstants.{READ_MAX}
use Rattle.vx_calls.specs.declared.targets.Target.{Target}
use Rattle.vx_calls.specs.declared.targets.Target.TheVariants.{Interface, Device}
use Rattle.vx_488.specs.declared.transfers.TheConstants.{ADDRESS_MAX}
use Rattle.vx_488.specs.declared.transfers.Transfer.{Transfer}
use Rattle.vx_488.specs.declared.transfers.Transfer.TheVariants as transfer
use Rattle.vx_plan.specs.declared.tasks.Task.{Task}
use Rattle.vx_plan.specs.declared.tasks.Task.TheVariants.{Write, Read, Stb, Clear, Trigger, Remote, Local, Commands, Status, Atn, Ren, Pass, Own, Ifc}
use Rattle.vx_plan.specs.Transfers.{is_got}
use Rattle.vx_plan.specs.Results.{is_put}
use Rattle.vx_plan.specs.Plan.{Slot, This, AnyByte, Plan}
use Rattle.vx_plan.specs.Tasks.{plan, just, puts, reading, write_plan, read_plan, poll_plan, command_plan, remote_plan, IsPlainTask, HasBytes}
use Rattle.vx_ctrl.proofs.Laws.Tallies.{one_if, slots_of, most_of, IsOpen}

-- a command byte
abbrev pub is_command : Transfer → Bool
is_command (transfer.Cmd b) = true
is_command _ = false

-- lines, interface clear and a new own address
abbrev pub is_line : Transfer → Bool
is_line (transfer.Ren on) = true
is_line (transfer.Atn on) = true
is_line transfer.Ifc = true
is_line (transfer.Own a) = true
is_line _ = false

-- an own address above 30
abbrev pub is_high : Transfer → Bool
is_high (transfer.Own a) = not (leb a ADDRESS_MAX)
is_high _ = false

-- a plan with at most so many command bytes, bytes put and bytes got, and at most one other transfer
pub record Sized (commands puts gets : ℕ) (p : Plan) : Type 0 where
  pub commands_at_most : most_of is_command false p ≤ commands
  pub puts_at_most : most_of is_put false p ≤ puts
  pub gets_at_most : most_of is_got true p ≤ gets
  pub lines_at_most : most_of is_line false p ≤ 1
  pub none_high : most_of is_high false p ≤ 0
  pub opens : IsOpen p.reading

-- a list of puts, or of command bytes, is all of a kind, or has none of it
puts-all : (kind : Transfer → Bool) (gets all : Bool) → ((b : ℕ) (end : Bool) → kind (transfer.Put b end) ≡ all)
    → (end : Bool) (bytes : List ℕ) → slots_of kind gets (map This (puts end bytes)) ≡ cond all (length bytes) 0
puts-all kind gets true same end [] = refl
puts-all kind gets false same end [] = refl
puts-all kind gets true same end (b ∷ []) = omega (arith, ap one_if (same b end))
puts-all kind gets false same end (b ∷ []) = omega (arith, ap one_if (same b end))
puts-all kind gets true same end (b ∷ c ∷ bs) = omega (arith, ap one_if (same b false), puts-all kind gets true same end (c ∷ bs))
puts-all kind gets false same end (b ∷ c ∷ bs) = omega (arith, ap one_if (same b false), puts-all kind gets false same end (c ∷ bs))

commands-all : (kind : Transfer → Bool) (gets all : Bool) → ((b : ℕ) → kind (transfer.Cmd b) ≡ all)
    → (bytes : List ℕ) → slots_of kind gets (map This (map transfer.Cmd bytes)) ≡ cond all (length bytes) 0
commands-all kind gets true same [] = refl
commands-all kind gets false same [] = refl
commands-all kind gets true same (b ∷ bs) = omega (arith, ap one_if (same b), commands-all kind gets true same bs)
commands-all kind gets false same (b ∷ bs) = omega (arith, ap one_if (same b), commands-all kind gets false same bs)

-- what a front has of each kind
record Counts (slots : List Slot) (commands puts gets lines : ℕ) : Type 0 where
  of_commands : slots_of is_command false slots ≡ commands
  of_puts : slots_of is_put false slots ≡ puts
  of_gets : slots_of is_got true slots ≡ gets
  of_lines : slots_of is_line false slots ≡ lines
  of_high : slots_of is_high false slots ≡ 0

puts-counts : (end : Bool) (bytes : List ℕ) → Counts (map This (puts end bytes)) 0 (length bytes) 0 0
puts-counts end bytes = record {
  of_commands = puts-all is_command false false (λ b e. refl) end bytes;
  of_puts = puts-all is_put false true (λ b e. refl) end bytes;
  of_gets = puts-all is_got true false (λ b e. refl) end bytes;
  of_lines = puts-all is_line false false (λ b e. refl) end bytes;
  of_high = puts-all is_high false false (λ b e. refl) end bytes;
}

commands-counts : (bytes : List ℕ) → Counts (map This (map transfer.Cmd bytes)) (length bytes) 0 0 0
commands-counts bytes = record {
  of_commands = commands-all is_command false true (λ b. refl) bytes;
  of_puts = commands-all is_put false false (λ b. refl) bytes;
  of_gets = commands-all is_got true false (λ b. refl) bytes;
  of_lines = commands-all is_line false false (λ b. refl) bytes;
  of_high = commands-all is_high false false (λ b. refl) bytes;
}

none-counts : Counts [] 0 0 0 0
none-counts = record { of_commands = refl; of_puts = refl; of_gets = refl; of_lines = refl; of_high = refl }

-- command bytes in front of such a front, and a line
behind : (front : List ℕ) (slots : List Slot) (commands puts gets lines : ℕ) → Counts slots commands puts gets lines
    → Counts (map This (map transfer.Cmd front) ++ slots) (length front + commands) puts gets lines
behind [] slots commands puts gets lines k =
    record { of_commands = omega arith; of_puts = omega arith; of_gets = omega arith; of_lines = omega arith; of_high = omega arith }
behind (b ∷ bs) slots commands puts gets lines k =
    let more = behind bs slots commands puts gets lines k in
    record { of_commands = omega arith; of_puts = omega arith; of_gets = omega arith; of_lines = omega arith; of_high = omega arith }

behind_ren : (on : Bool) (slots : List Slot) (commands puts gets lines : ℕ) → Counts slots commands puts gets lines
    → Counts (This (transfer.Ren on) ∷ slots) commands puts gets (lines + 1)
behind_ren on slots commands puts gets lines k =
    record { of_commands = omega arith; of_puts = omega arith; of_gets = omega arith; of_lines = omega arith; of_high = omega arith }

-- a plan without a read, and one with
sized : (slots : List Slot) (commands puts gets lines most : ℕ) → Counts slots commands puts gets lines → commands ≤ most → lines ≤ 1
    → Sized most puts gets (record { front = slots; reading = None })
sized slots commands puts gets lines most k h one = record {
  commands_at_most = omega arith;
  puts_at_most = omega arith;
  gets_at_most = omega arith;
  lines_at_most = omega arith;
  none_high = omega arith;
  opens = tt;
}

sized-read : (front : List ℕ) (max : ℕ) (stop : Option ℕ) → length front ≤ 8
    → Sized 8 0 (min max READ_MAX) (reading (map transfer.Cmd front) max stop)
sized-read front max stop h = by (max == 0) refl
  where
    by : (none : Bool) → (max == 0) ≡ none
        → Sized 8 0 (min max READ_MAX) (cond none (just []) (record { front = map This (map transfer.Cmd front); reading = Some (record { most = min max READ_MAX; stop = stop }) }))
    by true e = record {
      commands_at_most = omega arith;
      puts_at_most = omega arith;
      gets_at_most = omega arith;
      lines_at_most = omega arith;
      none_high = omega arith;
      opens = tt;
    }
    by false e = let k = commands-counts front in record {
      commands_at_most = omega arith;
      puts_at_most = omega arith;
      gets_at_most = omega arith;
      lines_at_most = omega arith;
      none_high = omega arith;
      opens = omega (arith, eqb-false max 0 e);
    }

write-sized : (t : Target) (end : Bool) (bytes : List ℕ) (polling : Bool) (own : ℕ) → Sized 8 (length bytes) 0 (write_plan t end bytes polling own)
write-sized t end bytes polling own = by t polling
  where
    n : ℕ
    n = length bytes

    k : Counts (map This (puts end bytes)) 0 n 0 0
    k = puts-counts end bytes

    by : (t : Target) (polling : Bool) → Sized 8 n 0 (write_plan t end bytes polling own)
    by Interface polling = sized _ 0 n 0 0 8 k (omega arith) (omega arith)
    by (Device p None) true = sized _ 4 n 0 0 8 (behind (0x19 ∷ 0x3F ∷ (0x40 + own) ∷ (0x20 + p) ∷ []) _ 0 n 0 0 k) (omega arith) (omega arith)
    by (Device p None) false = sized _ 3 n 0 0 8 (behind (0x3F ∷ (0x40 + own) ∷ (0x20 + p) ∷ []) _ 0 n 0 0 k) (omega arith) (omega arith)
    by (Device p (Some s)) true = sized _ 5 n 0 0 8 (behind (0x19 ∷ 0x3F ∷ (0x40 + own) ∷ (0x20 + p) ∷ (0x60 + s) ∷ []) _ 0 n 0 0 k) (omega arith) (omega arith)
    by (Device p (Some s)) false = sized _ 4 n 0 0 8 (behind (0x3F ∷ (0x40 + own) ∷ (0x20 + p) ∷ (0x60 + s) ∷ []) _ 0 n 0 0 k) (omega arith) (omega arith)

read-sized : (t : Target) (max : ℕ) (stop : Option ℕ) (polling : Bool) (own : ℕ) → Sized 8 0 (min max READ_MAX) (read_plan t max stop polling own)
read-sized Interface max stop polling own = sized-read [] max stop (omega arith)
read-sized (Device p None) max stop true own = sized-read (0x19 ∷ 0x3F ∷ (0x20 + own) ∷ (0x40 + p) ∷ []) max stop (omega arith)
read-sized (Device p None) max stop false own = sized-read (0x3F ∷ (0x20 + own) ∷ (0x40 + p) ∷ []) max stop (omega arith)
read-sized (Device p (Some s)) max stop true own = sized-read (0x19 ∷ 0x3F ∷ (0x20 + own) ∷ (0x40 + p) ∷ (0x60 + s) ∷ []) max stop (omega arith)
read-sized (Device p (Some s)) max stop false own = sized-read (0x3F ∷ (0x20 + own) ∷ (0x40 + p) ∷ (0x60 + s) ∷ []) max stop (omega arith)

poll-sized : (t : Target) (polling : Bool) (own : ℕ) → Sized 8 0 1 (poll_plan t polling own)
poll-sized t polling own = by t polling
  where
    k : Counts (AnyByte ∷ This (transfer.Cmd 0x19) ∷ This (transfer.Cmd 0x5F) ∷ []) 2 0 1 0
    k = record { of_commands = refl; of_puts = refl; of_gets = refl; of_lines = refl; of_high = refl }

    by : (t : Target) (polling : Bool) → Sized 8 0 1 (poll_plan t polling own)
    by Interface polling = record { commands_at_most = omega arith; puts_at_most = omega arith; gets_at_most = omega arith; lines_at_most = omega arith; none_high = omega arith; opens = tt }
    by (Device p None) true = sized _ 7 0 1 0 8 (behind (0x19 ∷ 0x3F ∷ (0x20 + own) ∷ 0x18 ∷ (0x40 + p) ∷ []) _ 2 0 1 0 k) (omega arith) (omega arith)
    by (Device p None) false = sized _ 6 0 1 0 8 (behind (0x3F ∷ (0x20 + own) ∷ 0x18 ∷ (0x40 + p) ∷ []) _ 2 0 1 0 k) (omega arith) (omega arith)
    by (Device p (Some s)) true = sized _ 8 0 1 0 8 (behind (0x19 ∷ 0x3F ∷ (0x20 + own) ∷ 0x18 ∷ (0x40 + p) ∷ (0x60 + s) ∷ []) _ 2 0 1 0 k) (omega arith) (omega arith)
    by (Device p (Some s)) false = sized _ 7 0 1 0 8 (behind (0x3F ∷ (0x20 + own) ∷ 0x18 ∷ (0x40 + p) ∷ (0x60 + s) ∷ []) _ 2 0 1 0 k) (omega arith) (omega arith)

command-sized : (t : Target) (b : ℕ) (interface : Transfer) (polling : Bool) → Sized 8 0 0 (just (interface ∷ []))
    → Sized 8 0 0 (command_plan t (transfer.Cmd b) interface polling)
command-sized Interface b interface polling k = k
command-sized (Device p None) b interface true k = sized _ 4 0 0 0 8 (commands-counts (0x19 ∷ 0x3F ∷ (0x20 + p) ∷ b ∷ [])) (omega arith) (omega arith)
command-sized (Device p None) b interface false k = sized _ 3 0 0 0 8 (commands-counts (0x3F ∷ (0x20 + p) ∷ b ∷ [])) (omega arith) (omega arith)
command-sized (Device p (Some s)) b interface true k = sized _ 5 0 0 0 8 (commands-counts (0x19 ∷ 0x3F ∷ (0x20 + p) ∷ (0x60 + s) ∷ b ∷ [])) (omega arith) (omega arith)
command-sized (Device p (Some s)) b interface false k = sized _ 4 0 0 0 8 (commands-counts (0x3F ∷ (0x20 + p) ∷ (0x60 + s) ∷ b ∷ [])) (omega arith) (omega arith)

one-command : (b : ℕ) → Sized 8 0 0 (just (transfer.Cmd b ∷ []))
one-command b = sized _ 1 0 0 0 8 (commands-counts (b ∷ [])) (omega arith) (omega arith)

one-line : (on : Bool) → Sized 8 0 0 (just (transfer.Ren on ∷ []))
one-line on = sized _ 0 0 0 1 8 (behind_ren on [] 0 0 0 0 none-counts) (omega arith) (omega arith)

remote-sized : (t : Target) (polling : Bool) → Sized 8 0 0 (remote_plan t polling)
remote-sized Interface polling = one-line true
remote-sized (Device p None) true =
    sized _ 3 0 0 1 8 (behind (0x19 ∷ []) _ 2 0 0 1 (behind_ren true _ 2 0 0 0 (commands-counts (0x3F ∷ (0x20 + p) ∷ [])))) (omega arith) (omega arith)
remote-sized (Device p None) false =
    sized _ 2 0 0 1 8 (behind_ren true _ 2 0 0 0 (commands-counts (0x3F ∷ (0x20 + p) ∷ []))) (omega arith) (omega arith)
remote-sized (Device p (Some s)) true =
    sized _ 4 0 0 1 8 (behind (0x19 ∷ []) _ 3 0 0 1 (behind_ren true _ 3 0 0 0 (commands-counts (0x3F ∷ (0x20 + p) ∷ (0x60 + s) ∷ [])))) (omega arith) (omega arith)
remote-sized (Device p (Some s)) false =
    sized _ 3 0 0 1 8 (behind_ren true _ 3 0 0 0 (commands-counts (0x3F ∷ (0x20 + p) ∷ (0x60 + s) ∷ []))) (omega arith) (omega arith)

-- the most command bytes that the plan of a job has
abbrev pub most_commands : Task → ℕ
most_commands (Commands len) = len
most_commands _ = 8

-- the most bytes put
abbrev pub most_puts : Task → ℕ
most_puts (Write t len end) = len
most_puts _ = 0

-- the most bytes got
abbrev pub most_gets : Task → ℕ
most_gets (Read t max stop) = min max READ_MAX
most_gets (Stb t) = 1
most_gets _ = 0

-- the plan of each job that can be done is as small
pub plan-sized : (task : Task) (bytes : List ℕ) (polling : Bool) (own : ℕ) → IsPlainTask task → HasBytes task bytes
    → Sized (most_commands task) (most_puts task) (most_gets task) (plan task bytes polling own)
plan-sized (Write t len end) bytes polling own plain has =
    let P : ℕ → Type 0 = λ n. Sized 8 n 0 (write_plan t end bytes polling own) in subst P has (write-sized t end bytes polling own)
plan-sized (Read t max stop) bytes polling own plain has = read-sized t max stop polling own
plan-sized (Stb t) bytes polling own plain has = poll-sized t polling own
plan-sized (Clear t) bytes polling own plain has = command-sized t 0x04 _ polling (one-command 0x14)
plan-sized (Trigger t) bytes polling own plain has = command-sized t 0x08 _ polling (one-command 0x08)
plan-sized (Remote t) bytes polling own plain has = remote-sized t polling
plan-sized (Local t) bytes polling own plain has = command-sized t 0x01 _ polling (one-line false)
plan-sized (Commands len) bytes polling own plain has =
    let P : ℕ → Type 0 = λ n. Sized n 0 0 (just (map transfer.Cmd bytes)) in
    subst P has (sized _ (length bytes) 0 0 0 (length bytes) (commands-counts bytes) (omega arith) (omega arith))
plan-sized (Status selector) bytes polling own plain has = sized _ 0 0 0 0 8 none-counts (omega arith) (omega arith)
plan-sized (Atn on) bytes polling own plain has =
    sized _ 0 0 0 1 8 (record { of_commands = refl; of_puts = refl; of_gets = refl; of_lines = refl; of_high = refl }) (omega arith) (omega arith)
plan-sized (Ren on) bytes polling own plain has = one-line on
plan-sized (Pass p) bytes polling own plain has = sized _ 3 0 0 0 8 (commands-counts (0x3F ∷ (0x40 + p) ∷ 0x09 ∷ [])) (omega arith) (omega arith)
plan-sized (Own p) bytes polling own plain has =
    sized _ 0 0 0 1 8 (record { of_commands = refl; of_puts = refl; of_gets = refl; of_lines = refl; of_high = omega (arith, ap (λ low. one_if (not low)) (le-leb p ADDRESS_MAX plain)) }) (omega arith) (omega arith)
plan-sized Ifc bytes polling own plain has =
    sized _ 0 0 0 1 8 (record { of_commands = refl; of_puts = refl; of_gets = refl; of_lines = refl; of_high = refl }) (omega arith) (omega arith)
