-- The move that each function gives is what the plan wants next.
use Rattle.std.proofs.Common.{◌≡◌, ℕ, zero, suc, ◌+◌, ◌<◌, ◌≤◌, min, Bool, true, false, not, ◌&&◌, ◌==◌, List, [], ◌∷◌, ◌++◌, map, length, Option, Some, None, refl, sym, ap, ◌∙◌, ◌⊎◌, inl, inr, arith, append-nil}
use Rattle.std.specs.Prelude.{if◌then◌else◌, slice_get, slice_index}
use Rattle.std.specs.List.{list_all}
use Rattle.std.specs.Option.{option_map}
use Rattle.std.proofs.lemmas.List.{map-append}
use Rattle.std.proofs.lemmas.Bool.{false≢true, true≢false, and_from, and_parts, ne_eqb}
use Rattle.std.proofs.Math.Bool.{and-true, and-false}
use Rattle.std.proofs.lemmas.Bool.Decides.{nat_tests}
use Rattle.std.proofs.lemmas.Option.{slice_get-map, slice_get_within, slice_get_past, slice_get-get_or, same_Some}
use Rattle.vx_calls.specs.declared.limits.TheConstants.{READ_MAX}
use Rattle.vx_calls.specs.declared.targets.Target.{Target}
use Rattle.vx_calls.specs.declared.targets.Target.TheVariants.{Interface, Device}
use Rattle.vx_488.specs.declared.transfers.Transfer.{Transfer}
use Rattle.vx_488.specs.declared.transfers.Transfer.TheVariants.{Cmd, Put, Got, Ren, Atn, Ifc, Own}
use Rattle.vx_plan.specs.declared.tasks.Task.{Task}
use Rattle.vx_plan.specs.declared.tasks.Task.TheVariants as task
use Rattle.vx_plan.specs.declared.tasks.Place.{Place}
use Rattle.vx_plan.specs.declared.tasks.Next.{Next}
use Rattle.vx_plan.specs.declared.tasks.Next.TheVariants as next
use Rattle.vx_plan.specs.declared.moves.Step.{Step}
use Rattle.vx_plan.specs.declared.moves.Step.TheVariants.{Command, Behind}
use Rattle.vx_plan.specs.Plan.{Slot, This, AnyByte, Reading, Plan, left_after, next_slot}
use Rattle.vx_plan.specs.Tasks.{ended_poll, secondary_part, spd, unt, unl, mta, puts, just, reading, command_list, remote_list}
use Rattle.vx_plan.specs.Results.{last_of, last_got}
use Rattle.vx_plan.specs.Places.{carries_data, Reaches, IsNextMove, slot_wanted}
use Rattle.vx_plan.specs.Moves.{IsStep, IsMoveAt, move_at, is_read_over, poll_tail, tail_after}
use Rattle.vx_plan.proofs.Laws.Walks.{off-stays}
use Rattle.vx_plan.proofs.Fronts.{steps, moves, all_fixed, Within, Beyond, walk-front, walk-done, is_data, walk-data, walk-read, steps-data, moves-data}

-- ---- transfers without data bytes

-- a transfer that isn't a byte put or got
abbrev pub is_line : Transfer → Bool
is_line (Put b end) = false
is_line (Got b end) = false
is_line _ = true

abbrev pub all_lines : List Transfer → Bool
all_lines ts = list_all is_line ts

-- the job is to send raw command bytes
abbrev pub is_raw : Task → Bool
is_raw (task.Commands len) = true
is_raw _ = false

line-fixed : (task : Task) (t : Transfer) → is_raw task ≡ false → is_line t ≡ true → not (carries_data task t) ≡ true
line-fixed task (Put b end) raw line = absurd (false≢true line)
line-fixed task (Got b end) raw line = absurd (false≢true line)
line-fixed (task.Commands len) (Cmd b) raw line = absurd (true≢false raw)
line-fixed _ (Cmd b) raw line = refl
line-fixed task (Ren on) raw line = refl
line-fixed task (Atn on) raw line = refl
line-fixed task Ifc raw line = refl
line-fixed task (Own a) raw line = refl

pub lines-fixed : (task : Task) (ts : List Transfer) → is_raw task ≡ false → all_lines ts ≡ true → all_fixed task ts ≡ true
lines-fixed task [] raw all = refl
lines-fixed task (t ∷ ts) raw all =
    let parts = and_parts (is_line t) (all_lines ts) all in
    and_from _ _ (line-fixed task t raw parts.0) (lines-fixed task ts raw parts.1)

-- what a job on a device begins with
abbrev pub front : Bool → List ℕ → ℕ → Option ℕ → List Transfer
front polling head primary s = ended_poll polling ++ (map Cmd head ++ Cmd primary ∷ secondary_part s)

lines-head : (head : List ℕ) (primary : ℕ) (s : Option ℕ) → all_lines (map Cmd head ++ Cmd primary ∷ secondary_part s) ≡ true
lines-head [] primary None = refl
lines-head [] primary (Some s) = refl
lines-head (b ∷ head) primary s = lines-head head primary s

pub lines-front : (polling : Bool) (head : List ℕ) (primary : ℕ) (s : Option ℕ) → all_lines (front polling head primary s) ≡ true
lines-front false head primary s = lines-head head primary s
lines-front true head primary s = lines-head head primary s

pub lines-command : (t : Target) (device : ℕ) (interface : Transfer) (polling : Bool) → is_line interface ≡ true
    → all_lines (command_list t (Cmd device) interface polling) ≡ true
lines-command Interface device interface polling line = and_from _ _ line refl
lines-command (Device p None) device interface false line = refl
lines-command (Device p None) device interface true line = refl
lines-command (Device p (Some s)) device interface false line = refl
lines-command (Device p (Some s)) device interface true line = refl

pub lines-remote : (t : Target) (polling : Bool) → all_lines (remote_list t polling) ≡ true
lines-remote Interface polling = refl
lines-remote (Device p None) false = refl
lines-remote (Device p None) true = refl
lines-remote (Device p (Some s)) false = refl
lines-remote (Device p (Some s)) true = refl

-- ---- the move among the first transfers, or behind them

module _ (task : Task) (fixed : List Transfer) (rest : List Slot) (reading : Option Reading) (ts : List Transfer) (left : Plan)
    (all : all_fixed task fixed ≡ true) (goes : left_after (Some (record { front = map This fixed ++ rest; reading = reading })) ts ≡ Some left)
    (n : ℕ) (made : n ≡ steps task ts) where
  at-step : (t : Transfer) → slice_get fixed n ≡ Some t → Some (This t) ≡ next_slot left
  at-step t is = by (walk-front task fixed rest reading ts left all goes) where
    by : Within task fixed ts left ⊎ Beyond task fixed rest reading ts left → Some (This t) ≡ next_slot left
    by (inl w) = ap (option_map This) (sym is ∙ ap (slice_get fixed) made) ∙ sym w.at
    by (inr b) = absurd (omega (arith, slice_get_within fixed n t is, b.stepped))

  behind-step : (k : ℕ) → n ≡ length fixed + k → (b : Beyond task fixed rest reading ts left) × (k ≡ steps task b.behind)
  behind-step k is = by (walk-front task fixed rest reading ts left all goes) where
    by : Within task fixed ts left ⊎ Beyond task fixed rest reading ts left → (b : Beyond task fixed rest reading ts left) × (k ≡ steps task b.behind)
    by (inl w) = absurd (omega (arith, w.inside))
    by (inr b) = (b, omega (arith, b.stepped))

  -- the move of a step is the next one, where behind the front another function's is
  next-or : (step : Step) (behind : Next) (bytes : List ℕ) (moved : ℕ) → IsStep fixed n step
      → ((b : Beyond task fixed rest reading ts left) → slot_wanted behind bytes moved ≡ next_slot left)
      → slot_wanted (move_at step behind) bytes moved ≡ next_slot left
  next-or (Command b) behind bytes moved is then_next = at-step (Cmd b) is
  next-or (Behind k) behind bytes moved is then_next = then_next (behind-step k is).0

-- a job that makes no transfer with a data byte
pub next-fixed : (task : Task) (fixed : List Transfer) (ts : List Transfer) (left : Plan) (n : ℕ) (move : Next) (bytes : List ℕ) (moved : ℕ)
    → is_raw task ≡ false → all_lines fixed ≡ true → left_after (Some (just fixed)) ts ≡ Some left → n ≡ steps task ts → IsMoveAt fixed n move
    → slot_wanted move bytes moved ≡ next_slot left
next-fixed task fixed ts left n move bytes moved raw lines goes made is =
    by (walk-front task fixed [] None ts left (lines-fixed task fixed raw lines) behind) where
      behind : left_after (Some (record { front = map This fixed ++ []; reading = None })) ts ≡ Some left
      behind = ap (λ l. left_after (Some (record { front = l; reading = None })) ts) (append-nil (map This fixed)) ∙ goes

      by : Within task fixed ts left ⊎ Beyond task fixed [] None ts left → slot_wanted move bytes moved ≡ next_slot left
      by (inl w) = is bytes moved ∙ ap (λ k. option_map This (slice_get fixed k)) made ∙ sym w.at
      by (inr b) =
          let past : length fixed ≤ n = omega (arith, b.stepped) in
          is bytes moved ∙ ap (option_map This) (slice_get_past fixed n past) ∙ sym (ap next_slot (walk-done b.behind left b.goes).1)

-- ---- the fields of a place that a list reaches

steps-of : {task : Task} {bytes : List ℕ} {ts : List Transfer} {left : Plan} {place : Place} → Reaches task bytes ts left place → place.step ≡ steps task ts
steps-of r = ap (λ (p : Place). p.step) r.at

pub moves-of : {task : Task} {bytes : List ℕ} {ts : List Transfer} {left : Plan} {place : Place} → Reaches task bytes ts left place → place.moved ≡ moves task ts
moves-of r = ap (λ (p : Place). p.moved) r.at

last-of : {task : Task} {bytes : List ℕ} {ts : List Transfer} {left : Plan} {place : Place} → Reaches task bytes ts left place → place.last ≡ last_got ts
last-of r = ap (λ (p : Place). p.last) r.at

-- ---- jobs without data bytes

pub next-clear : (t : Target) (place : Place) (move : Next) → IsMoveAt (command_list t (Cmd 0x04) (Cmd 0x14) place.polling) place.step move → IsNextMove (task.Clear t) place move
next-clear t place move is bytes ts left r =
    next-fixed (task.Clear t) _ ts left place.step move bytes place.moved refl (lines-command t 0x04 (Cmd 0x14) place.polling refl) r.goes (steps-of r) is

pub next-trigger : (t : Target) (place : Place) (move : Next) → IsMoveAt (command_list t (Cmd 0x08) (Cmd 0x08) place.polling) place.step move → IsNextMove (task.Trigger t) place move
next-trigger t place move is bytes ts left r =
    next-fixed (task.Trigger t) _ ts left place.step move bytes place.moved refl (lines-command t 0x08 (Cmd 0x08) place.polling refl) r.goes (steps-of r) is

pub next-local : (t : Target) (place : Place) (move : Next) → IsMoveAt (command_list t (Cmd 0x01) (Ren false) place.polling) place.step move → IsNextMove (task.Local t) place move
next-local t place move is bytes ts left r =
    next-fixed (task.Local t) _ ts left place.step move bytes place.moved refl (lines-command t 0x01 (Ren false) place.polling refl) r.goes (steps-of r) is

pub next-remote : (t : Target) (place : Place) (move : Next) → IsMoveAt (remote_list t place.polling) place.step move → IsNextMove (task.Remote t) place move
next-remote t place move is bytes ts left r =
    next-fixed (task.Remote t) _ ts left place.step move bytes place.moved refl (lines-remote t place.polling) r.goes (steps-of r) is

pub next-status : (selector : ℕ) (place : Place) → IsNextMove (task.Status selector) place next.Finished
next-status selector place bytes ts left r =
    next-fixed (task.Status selector) [] ts left place.step next.Finished bytes place.moved refl refl r.goes (steps-of r) (λ bytes moved. refl)

pub next-atn : (on : Bool) (place : Place) (move : Next) → IsMoveAt (Atn on ∷ []) place.step move → IsNextMove (task.Atn on) place move
next-atn on place move is bytes ts left r =
    next-fixed (task.Atn on) (Atn on ∷ []) ts left place.step move bytes place.moved refl refl r.goes (steps-of r) is

pub next-ren : (on : Bool) (place : Place) (move : Next) → IsMoveAt (Ren on ∷ []) place.step move → IsNextMove (task.Ren on) place move
next-ren on place move is bytes ts left r =
    next-fixed (task.Ren on) (Ren on ∷ []) ts left place.step move bytes place.moved refl refl r.goes (steps-of r) is

pub next-own : (a : ℕ) (place : Place) (move : Next) → IsMoveAt (Own a ∷ []) place.step move → IsNextMove (task.Own a) place move
next-own a place move is bytes ts left r =
    next-fixed (task.Own a) (Own a ∷ []) ts left place.step move bytes place.moved refl refl r.goes (steps-of r) is

pub next-ifc : (place : Place) (move : Next) → IsMoveAt (Ifc ∷ []) place.step move → IsNextMove task.Ifc place move
next-ifc place move is bytes ts left r =
    next-fixed task.Ifc (Ifc ∷ []) ts left place.step move bytes place.moved refl refl r.goes (steps-of r) is

pub next-pass : (p : ℕ) (place : Place) (move : Next) → IsMoveAt (unl ∷ mta p ∷ Cmd 0x09 ∷ []) place.step move → IsNextMove (task.Pass p) place move
next-pass p place move is bytes ts left r =
    next-fixed (task.Pass p) (unl ∷ mta p ∷ Cmd 0x09 ∷ []) ts left place.step move bytes place.moved refl refl r.goes (steps-of r) is

-- ---- data bytes

-- the byte at each place of a write, with END on the last one or not
pub puts-at : (end : Bool) (bytes : List ℕ) (n : ℕ) → n < length bytes
    → slice_get (puts end bytes) n ≡ Some (Put (slice_index bytes n) (end && (n + 1 == length bytes)))
puts-at end [] n h = absurd (omega arith)
puts-at end (b ∷ []) zero h = ap (λ e. Some (Put b e)) (sym (and-true end))
puts-at end (b ∷ []) (suc n) h = absurd (omega arith)
puts-at end (b ∷ c ∷ bs) zero h =
    let more : (1 == suc (suc (length bs))) ≡ false = grind (arith, nat_tests) in
    ap (λ e. Some (Put b e)) (sym (and-false end) ∙ ap (λ e. end && e) (sym more))
puts-at end (b ∷ c ∷ bs) (suc n) h =
    let same : (n + 1 == suc (length bs)) ≡ (suc n + 1 == suc (suc (length bs))) = grind (arith, nat_tests) in
    puts-at end (c ∷ bs) n (omega arith) ∙ ap (λ e. Some (Put (slice_index (c ∷ bs) n) (end && e))) same

-- all that a write puts is data
pub puts-data : (task : Task) (end : Bool) (bytes : List ℕ) → list_all (is_data task) (map This (puts end bytes)) ≡ true
puts-data task end [] = refl
puts-data task end (b ∷ []) = refl
puts-data task end (b ∷ c ∷ bs) = puts-data task end (c ∷ bs)

-- the next byte of the data
next-data : (task : Task) (data_list : List Transfer) (ts : List Transfer) (left : Plan) → list_all (is_data task) (map This data_list) ≡ true
    → left_after (Some (just data_list)) ts ≡ Some left → option_map This (slice_get data_list (moves task ts)) ≡ next_slot left
next-data task data_list ts left all goes =
    sym ((walk-data task (map This data_list) ts left all goes).at ∙ slice_get-map This data_list (moves task ts))

-- the next byte of a write is this one
abbrev pub IsPut : ℕ → Bool → ℕ → Next → Type 0
IsPut len end moved put = (bytes : List ℕ) → length bytes ≡ len → slot_wanted put bytes moved ≡ option_map This (slice_get (puts end bytes) moved)

pub next-write-interface : (len : ℕ) (end : Bool) (place : Place) (put : Next) → IsPut len end place.moved put → IsNextMove (task.Write Interface len end) place put
next-write-interface len end place put is bytes ts left r =
    let task = task.Write Interface len end in
    is bytes r.sent ∙ ap (λ n. option_map This (slice_get (puts end bytes) n)) (moves-of r)
    ∙ next-data task (puts end bytes) ts left (puts-data task end bytes) r.goes

pub next-write-device : (p : ℕ) (s : Option ℕ) (len : ℕ) (end : Bool) (place : Place) (step : Step) (put : Next)
    → IsStep (front place.polling (0x3F ∷ (0x40 + place.own) ∷ []) (0x20 + p) s) place.step step → IsPut len end place.moved put
    → IsNextMove (task.Write (Device p s) len end) place (move_at step put)
next-write-device p s len end place step put at is bytes ts left r =
    let task = task.Write (Device p s) len end in
    let head = 0x3F ∷ (0x40 + place.own) ∷ [] in
    let fixed = front place.polling head (0x20 + p) s in
    let data_list = puts end bytes in
    let goes : left_after (Some (record { front = map This fixed ++ map This data_list; reading = None })) ts ≡ Some left =
    ap (λ l. left_after (Some (record { front = l; reading = None })) ts)
    (sym (map-append This fixed data_list)) ∙ r.goes in
    next-or task fixed (map This data_list) None ts left (lines-fixed task fixed refl (lines-front place.polling head (0x20 + p) s)) goes
    place.step (steps-of r) step put bytes place.moved at
    (λ b.
    is bytes r.sent ∙ ap (λ n. option_map This (slice_get data_list n)) (moves-of r ∙ b.moved)
    ∙ next-data task data_list b.behind left (puts-data task end bytes) b.goes)

-- ---- reads

-- the next byte of a read is got, or the read is over
abbrev pub IsGet : ℕ → Option ℕ → Place → Next → Type 0
IsGet max stop place get = get ≡ (if is_read_over max stop place.last place.moved then next.Finished else next.Get)

wanted-get : (e : Bool) (bytes : List ℕ) (moved : ℕ) → slot_wanted (if e then next.Finished else next.Get) bytes moved ≡ (if e then None else Some AnyByte)
wanted-get true bytes moved = refl
wanted-get false bytes moved = refl

-- the read of a job
abbrev pub reading_of : ℕ → Option ℕ → Reading
reading_of max stop = record { most = min max READ_MAX; stop = stop }

-- the plan of a read of some bytes
pub reading-some : (fixed : List Transfer) (max : ℕ) (stop : Option ℕ) → (max ≡ 0 → ⊥)
    → reading fixed max stop ≡ record { front = map This fixed; reading = Some (reading_of max stop) }
reading-some fixed max stop some =
    ap (λ e. if e then just [] else record { front = map This fixed; reading = Some (reading_of max stop) }) (ne_eqb max 0 some)

next-reading : (task : Task) (max : ℕ) (stop : Option ℕ) (place : Place) (get : Next) (ts : List Transfer) (left : Plan) (bytes : List ℕ)
    → (max ≡ 0 → ⊥) → IsGet max stop place get → place.last ≡ last_got ts → place.moved ≡ moves task ts
    → left_after (Some (record { front = []; reading = Some (reading_of max stop) })) ts ≡ Some left
    → slot_wanted get bytes place.moved ≡ next_slot left
next-reading task max stop place get ts left bytes some is last moved goes =
    let r = reading_of max stop in
    let least : 1 ≤ min max READ_MAX = omega arith in
    let at = (walk-read task r None ts left least refl goes).at in
    ap (λ m. slot_wanted m bytes place.moved) is ∙ wanted-get (is_read_over max stop place.last place.moved) bytes place.moved
    ∙ ap (λ l. if is_read_over max stop l place.moved then None else Some AnyByte) last
    ∙ ap (λ n. if is_read_over max stop (last_got ts) n then None else Some AnyByte) moved
    ∙ sym at

pub next-read-none : (t : Target) (stop : Option ℕ) (place : Place) → IsNextMove (task.Read t 0 stop) place next.Finished
next-read-none Interface stop place bytes ts left r = sym (ap next_slot (walk-done ts left r.goes).1)
next-read-none (Device p s) stop place bytes ts left r = sym (ap next_slot (walk-done ts left r.goes).1)

pub next-read-interface : (max : ℕ) (stop : Option ℕ) (place : Place) (get : Next) → (max ≡ 0 → ⊥) → IsGet max stop place get
    → IsNextMove (task.Read Interface max stop) place get
next-read-interface max stop place get some is bytes ts left r =
    let goes = ap (λ p. left_after (Some p) ts) (sym (reading-some [] max stop some)) ∙ r.goes in
    next-reading (task.Read Interface max stop) max stop place get ts left bytes some is (last-of r) (moves-of r) goes

pub next-read-device : (p : ℕ) (s : Option ℕ) (max : ℕ) (stop : Option ℕ) (place : Place) (step : Step) (get : Next) → (max ≡ 0 → ⊥)
    → IsStep (front place.polling (0x3F ∷ (0x20 + place.own) ∷ []) (0x40 + p) s) place.step step → IsGet max stop place get
    → IsNextMove (task.Read (Device p s) max stop) place (move_at step get)
next-read-device p s max stop place step get some at is bytes ts left r =
    let task = task.Read (Device p s) max stop in
    let head = 0x3F ∷ (0x20 + place.own) ∷ [] in
    let fixed = front place.polling head (0x40 + p) s in
    let goes : left_after (Some (record { front = map This fixed ++ []; reading = Some (reading_of max stop) })) ts ≡ Some left =
    ap (λ l. left_after (Some (record { front = l; reading = Some (reading_of max stop) })) ts) (append-nil (map This fixed))
    ∙ ap (λ p. left_after (Some p) ts) (sym (reading-some fixed max stop some)) ∙ r.goes in
    next-or task fixed [] (Some (reading_of max stop)) ts left (lines-fixed task fixed refl (lines-front place.polling head (0x40 + p) s)) goes
    place.step (steps-of r) step get bytes place.moved at
    (λ b. next-reading task max stop place get b.behind left bytes some is (last-of r ∙ ap (last_of None) b.took) (moves-of r ∙ b.moved) b.goes)

-- ---- serial polls

-- what stands behind the front of a serial poll
abbrev poll_rest : List Slot
poll_rest = AnyByte ∷ This spd ∷ This unt ∷ []

never : (n : ℕ) → (suc n == 0) ≡ false
never n = grind (arith, nat_tests)

apart : (n : ℕ) → (suc (suc n) == 1) ≡ false
apart n = grind (arith, nat_tests)

abbrev tail_by : Bool → Bool → Bool → Next
tail_by a b c = if a then next.Get else if b then next.Command 0x19 else if c then next.Command 0x5F else next.Finished

tail-some : (moved step : ℕ) (bytes : List ℕ) (n : ℕ) → slot_wanted (poll_tail (suc moved) step) bytes n ≡ option_map This (slice_get (spd ∷ unt ∷ []) step)
tail-some moved zero bytes n = ap (λ a. slot_wanted (tail_by a true false) bytes n) (never moved)
tail-some moved (suc zero) bytes n = ap (λ a. slot_wanted (tail_by a false true) bytes n) (never moved)
tail-some moved (suc (suc step)) bytes n =
    ap (λ a. slot_wanted (tail_by a (suc (suc step) == 0) (suc (suc step) == 1)) bytes n) (never moved)
    ∙ ap (λ b. slot_wanted (tail_by false b (suc (suc step) == 1)) bytes n) (never (suc step))
    ∙ ap (λ c. slot_wanted (tail_by false false c) bytes n) (apart step)

-- behind the byte got come SPD and UNT
tail-moves : (task : Task) (ts : List Transfer) (left : Plan) (moved : ℕ) (bytes : List ℕ) (n : ℕ) → is_raw task ≡ false
    → left_after (Some (just (spd ∷ unt ∷ []))) ts ≡ Some left
    → slot_wanted (poll_tail (suc moved) (steps task ts)) bytes n ≡ next_slot left
tail-moves task ts left moved bytes n raw goes =
    by (walk-front task (spd ∷ unt ∷ []) [] None ts left (lines-fixed task (spd ∷ unt ∷ []) raw refl) goes) where
      by : Within task (spd ∷ unt ∷ []) ts left ⊎ Beyond task (spd ∷ unt ∷ []) [] None ts left
          → slot_wanted (poll_tail (suc moved) (steps task ts)) bytes n ≡ next_slot left
      by (inl w) = tail-some moved (steps task ts) bytes n ∙ sym w.at
      by (inr b) =
          let past : 2 ≤ steps task ts = omega (arith, b.stepped) in
          tail-some moved (steps task ts) bytes n
          ∙ ap (option_map This) (slice_get_past (spd ∷ unt ∷ []) (steps task ts) past)
          ∙ sym (ap next_slot (walk-done b.behind left b.goes).1)

poll-moves : (task : Task) (ts : List Transfer) (left : Plan) (moved step : ℕ) (bytes : List ℕ) (n : ℕ) → is_raw task ≡ false
    → left_after (Some (record { front = poll_rest; reading = None })) ts ≡ Some left → moved ≡ moves task ts → step ≡ steps task ts
    → slot_wanted (poll_tail moved step) bytes n ≡ next_slot left
poll-moves task [] left moved step bytes n raw goes m k =
    ap (λ x. slot_wanted (poll_tail x step) bytes n) m ∙ ap next_slot (same_Some _ _ goes)
poll-moves task (Got b end ∷ ts) left moved step bytes n raw goes m k =
    let more : moved ≡ suc (moves task ts) = m ∙ moves-data task (Got b end) ts refl in
    let same : step ≡ steps task ts = k ∙ steps-data task (Got b end) ts refl in
    ap (λ x. slot_wanted (poll_tail x step) bytes n) more ∙ ap (λ x. slot_wanted (poll_tail (suc (moves task ts)) x) bytes n) same
    ∙ tail-moves task ts left (moves task ts) bytes n raw goes
poll-moves task (t ∷ ts) left moved step bytes n raw goes m k = absurd (off-stays ts left goes)

-- the front of a serial poll and what stands behind it
front-poll : (p : ℕ) (s : Option ℕ) (place : Place) (ts : List Transfer) (left : Plan) (bytes : List ℕ)
    → Reaches (task.Stb (Device p s)) bytes ts left place
    → left_after (Some (record { front = map This (front place.polling (0x3F ∷ (0x20 + place.own) ∷ 0x18 ∷ []) (0x40 + p) s) ++ poll_rest; reading = None })) ts ≡ Some left
front-poll p s place ts left bytes r = r.goes

pub next-poll-interface : (place : Place) → IsNextMove (task.Stb Interface) place next.Finished
next-poll-interface place bytes ts left r = sym (ap next_slot (walk-done ts left r.goes).1)

pub next-poll-front : (p : ℕ) (s : Option ℕ) (place : Place) (b : ℕ)
    → IsStep (front place.polling (0x3F ∷ (0x20 + place.own) ∷ 0x18 ∷ []) (0x40 + p) s) place.step (Command b)
    → IsNextMove (task.Stb (Device p s)) place (next.Command b)
next-poll-front p s place b at bytes ts left r =
    let task = task.Stb (Device p s) in
    let head = 0x3F ∷ (0x20 + place.own) ∷ 0x18 ∷ [] in
    let fixed = front place.polling head (0x40 + p) s in
    at-step task fixed poll_rest None ts left (lines-fixed task fixed refl (lines-front place.polling head (0x40 + p) s)) r.goes
    place.step (steps-of r) (Cmd b) at

pub next-poll-tail : (p : ℕ) (s : Option ℕ) (place : Place) (k : ℕ)
    → IsStep (front place.polling (0x3F ∷ (0x20 + place.own) ∷ 0x18 ∷ []) (0x40 + p) s) place.step (Behind k)
    → IsNextMove (task.Stb (Device p s)) place (poll_tail place.moved k)
next-poll-tail p s place k at bytes ts left r =
    let task = task.Stb (Device p s) in
    let head = 0x3F ∷ (0x20 + place.own) ∷ 0x18 ∷ [] in
    let fixed = front place.polling head (0x40 + p) s in
    let far = behind-step task fixed poll_rest None ts left (lines-fixed task fixed refl (lines-front place.polling head (0x40 + p) s)) r.goes
    place.step (steps-of r) k at in
    poll-moves task far.0.behind left place.moved k bytes place.moved refl far.0.goes (moves-of r ∙ far.0.moved) far.1

-- ---- raw command bytes

pub raw-data : (len : ℕ) (bytes : List ℕ) → list_all (is_data (task.Commands len)) (map This (map Cmd bytes)) ≡ true
raw-data len [] = refl
raw-data len (b ∷ bytes) = raw-data len bytes

pub next-commands : (len : ℕ) (place : Place) → place.moved < len → IsNextMove (task.Commands len) place next.CommandByte
next-commands len place h bytes ts left r =
    let inside : place.moved < length bytes = omega (arith, r.sent) in
    ap (option_map This) (ap (option_map Cmd) (sym (slice_get-get_or bytes place.moved 0 inside)) ∙ sym (slice_get-map Cmd bytes place.moved))
    ∙ ap (λ n. option_map This (slice_get (map Cmd bytes) n)) (moves-of r)
    ∙ next-data (task.Commands len) (map Cmd bytes) ts left (raw-data len bytes) r.goes

pub next-commands-done : (len : ℕ) (place : Place) → len ≤ place.moved → IsNextMove (task.Commands len) place next.Finished
next-commands-done len place h bytes ts left r =
    let past : length bytes ≤ place.moved = omega (arith, r.sent) in
    ap (option_map This) (ap (option_map Cmd) (sym (slice_get_past bytes place.moved past)) ∙ sym (slice_get-map Cmd bytes place.moved))
    ∙ ap (λ n. option_map This (slice_get (map Cmd bytes) n)) (moves-of r)
    ∙ next-data (task.Commands len) (map Cmd bytes) ts left (raw-data len bytes) r.goes

-- ---- a single move

pub only-at : (t : Transfer) (only : Next) (step : ℕ) → IsMoveAt (t ∷ []) 0 only → IsMoveAt (t ∷ []) step (tail_after only step)
only-at t only zero is = is
only-at t only (suc step) is = λ bytes moved. ap (λ e. slot_wanted (if e then only else next.Finished) bytes moved) (never step)
