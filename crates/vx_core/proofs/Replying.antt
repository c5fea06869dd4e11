-- What a turn has put and got, as its reply counts them.
use Rattle.std.proofs.Common.{◌≡◌, ℕ, ◌+◌, ◌/◌, ◌%◌, ◌<◌, ◌≤◌, Bool, true, false, not, cond, ◌==◌, List, [], ◌∷◌, ◌++◌, map, length, take, count_by, ◌⊎◌, inl, inr, slice_set, slice_index_or, IsSome, rules, Option, Some, None, refl, sym, ap, ◌∙◌, subst, arith}
use Rattle.std.proofs.lemmas.List.{append-nil, length-take-le}
use Rattle.std.specs.Option.{option_map_or}
use mir.Val.{bool_byte}
use Rattle.vx_calls.specs.declared.limits.TheConstants.{READ_MAX}
use Rattle.vx_calls.specs.declared.targets.Target.{Target}
use Rattle.vx_calls.specs.declared.targets.Target.TheVariants.{Interface, Device}
use Rattle.vx_calls.specs.declared.codes.ErrorCode.{ErrorCode}
use Rattle.vx_calls.specs.declared.codes.ErrorCode.TheVariants as code
use Rattle.vx_calls.specs.Call.{Call}
use Rattle.vx_calls.specs.Call as call
use Rattle.vx_calls.specs.Reply as reply
use Rattle.vx_488.specs.declared.transfers.Transfer.{Transfer}
use Rattle.vx_488.specs.declared.transfers.Transfer.TheVariants as transfer
use Rattle.vx_488.specs.declared.wire.Wire.{Wire}
use Rattle.vx_plan.specs.declared.tasks.Task.{Task}
use Rattle.vx_plan.specs.declared.tasks.Task.TheVariants.{Write, Read, Stb}
use Rattle.vx_plan.specs.declared.tasks.Place.{Place}
use Rattle.vx_plan.specs.Transfers.{is_got}
use Rattle.vx_plan.specs.Plan.{This, AnyByte, Plan, Whole, left_after, stand_of, stand}
use Rattle.vx_plan.specs.Whole.{Fill, IsWhole}
use Rattle.vx_plan.specs.Tasks.{spd, unt, plan, poll_plan, most_bytes, IsPlainTask, IsDevice}
use Rattle.vx_plan.specs.Results.{gots, bytes_got, puts_made, last_of, two_bytes, read_reason, whole_reply}
use Rattle.vx_plan.specs.Places.{Reaches}
use Rattle.vx_plan.proofs.Laws.{whole-law}
use Rattle.vx_ctrl.specs.Turns.{TurnState, GetsBytes, moved_by, reason_by}
use Rattle.vx_ctrl.specs.Goes.{HoldsBytes}
use Rattle.vx_ctrl.proofs.Laws.{most_puts, most_gets, fares, length-gots, length-bytes_got, moved-got}
use Rattle.vx_rules.specs.Effects.{stopped_reply}
use Rattle.vx_488.specs.Means.{Means}
use Rattle.vx_rules.specs.Calls.{bytes_of}
use Rattle.vx_rules.specs.Decide.{stand_of_job}
use Rattle.vx_flow.specs.InterleavedState.{Turn, turn_of, moves_of}
use Rattle.vx_flow.specs.InterleavedStep.{call_stand, turn_stand}
use Rattle.vx_core.specs.declared.running.Running.{Running}
use Rattle.vx_core.specs.KernelState.{KernelState}
use Rattle.vx_core.specs.Keeping.{RunsTurn}
use Rattle.vx_core.specs.Shown.{running_of, turn_shown, before_shown, interleaved_of}
use Rattle.vx_core.specs.Given.{reply_bytes}

-- ---- what a list put and got

-- a list without length is empty
empty : (xs : List ℕ) (n : ℕ) → length xs ≡ n → n ≤ 0 → xs ≡ []
empty [] n e h = refl
empty (x ∷ xs) n e h = absurd (omega arith)

-- a job that gets no bytes has got none
pub none-got : (task : Task) (bytes : List ℕ) (made : List Transfer) (left : Plan) (place : Place) → IsPlainTask task → Reaches task bytes made left place
    → most_gets task ≡ 0 → bytes_got made ≡ []
none-got task bytes made left place plain reaches h =
    let f = fares task bytes made left place plain reaches in
    let few : count_by is_got made ≤ 0 = omega (arith, f.gets) in
    empty (bytes_got made) (count_by is_got made) (length-bytes_got made ∙ length-gots made) few

-- and a job that puts none has put none
pub none-put : (task : Task) (bytes : List ℕ) (made : List Transfer) (left : Plan) (place : Place) → IsPlainTask task → Reaches task bytes made left place
    → most_puts task ≡ 0 → puts_made made ≡ 0
none-put task bytes made left place plain reaches h = let f = fares task bytes made left place plain reaches in omega (arith, f.puts)

-- a job that gets bytes puts none
gets-no_puts : (task : Task) → GetsBytes task → most_puts task ≡ 0
gets-no_puts (Read t max stop) h = refl
gets-no_puts (Stb t) h = refl
gets-no_puts task h = absurd h

-- no job gets more bytes than a read may
most-small : (task : Task) → most_gets task ≤ READ_MAX
most-small (Read t max stop) = omega arith
most-small (Stb t) = omega arith
most-small task = omega arith

-- a job but a write brings no more bytes than a read may get
pub brings-few : (task : Task) → ((t : Target) (len : ℕ) (end : Bool) → task ≡ Write t len end → ⊥) → most_bytes task ≤ READ_MAX
brings-few (Write t len end) none = absurd (none t len end refl)
brings-few task none = omega arith

-- a read or a serial poll gets bytes
pub either-gets : (task : Task) → ((t : Target) × (max : ℕ) × (stop : Option ℕ) × (task ≡ Read t max stop)) ⊎ ((t : Target) × (task ≡ Stb t)) → GetsBytes task
either-gets task (inl w) = subst GetsBytes (sym w.3) tt
either-gets task (inr w) = subst GetsBytes (sym w.1) tt

-- every other job but a write moves no bytes
record Quiet (task : Task) : Type 0 where
  puts : most_puts task ≡ 0
  gets : most_gets task ≡ 0

quiet : (task : Task) → ((t : Target) (len : ℕ) (end : Bool) → task ≡ Write t len end → ⊥)
    → ((t : Target) (max : ℕ) (stop : Option ℕ) → task ≡ Read t max stop → ⊥) → ((t : Target) → task ≡ Stb t → ⊥) → Quiet task
quiet (Write t len end) a b c = absurd (a t len end refl)
quiet (Read t max stop) a b c = absurd (b t max stop refl)
quiet (Stb t) a b c = absurd (c t refl)
quiet _ a b c = record { puts = refl; gets = refl }

-- a write has put what it moved
pub wrote : (task : Task) (t : Target) (len : ℕ) (end : Bool) → task ≡ Write t len end → (bytes : List ℕ) (made : List Transfer) (left : Plan) (place : Place)
    → IsPlainTask task → Reaches task bytes made left place → (moved : ℕ) → moved ≡ moved_by task made
    → (puts_made made ≡ moved) × (bytes_got made ≡ [])
wrote task t len end e bytes made left place plain reaches moved m =
    (sym (m ∙ ap (λ (k : Task). moved_by k made) e), none-got task bytes made left place plain reaches (ap most_gets e))

-- a read or a serial poll has got what it moved
pub has-got : (turn : TurnState) (bytes : List ℕ) (made : List Transfer) (left : Plan) → GetsBytes turn.task → IsPlainTask turn.task
    → Reaches turn.task bytes made left turn.place → (moved : ℕ) → moved ≡ turn.place.moved → (room : List ℕ) → HoldsBytes turn made room
    → (puts_made made ≡ 0) × (bytes_got made ≡ take moved room)
has-got turn bytes made left gets plain reaches moved m room holds =
    (none-put turn.task bytes made left turn.place plain reaches (gets-no_puts turn.task gets), sym (ap (λ n. take n room) m ∙ holds))

-- and that is no more than a read may
pub got-few : (task : Task) (bytes : List ℕ) (made : List Transfer) (left : Plan) (place : Place) → GetsBytes task → IsPlainTask task
    → Reaches task bytes made left place → place.moved ≤ READ_MAX
got-few task bytes made left place gets plain reaches =
    let f = fares task bytes made left place plain reaches in
    let n : place.moved ≡ count_by is_got made = moved-got task bytes made left place plain reaches gets ∙ length-gots made in
    omega (arith, n, f.gets, most-small task)

-- every job but a write, a read and a serial poll has put and got nothing
pub moved-none : (task : Task) → ((t : Target) (len : ℕ) (end : Bool) → task ≡ Write t len end → ⊥)
    → ((t : Target) (max : ℕ) (stop : Option ℕ) → task ≡ Read t max stop → ⊥) → ((t : Target) → task ≡ Stb t → ⊥)
    → (bytes : List ℕ) (made : List Transfer) (left : Plan) (place : Place) → IsPlainTask task → Reaches task bytes made left place
    → (puts_made made ≡ 0) × (bytes_got made ≡ [])
moved-none task a b c bytes made left place plain reaches =
    let q = quiet task a b c in
    (none-put task bytes made left place plain reaches q.puts, none-got task bytes made left place plain reaches q.gets)

-- ---- the reply of a read

-- the reason and the bytes of a read
pub read-whole : (turn : TurnState) (t : Target) (max : ℕ) (stop : Option ℕ) → turn.task ≡ Read t max stop
    → (bytes : List ℕ) (w : Wire) (big level : Bool) (made : List Transfer) (room : List ℕ) (reason moved : ℕ)
    → reason ≡ reason_by turn.task made → moved ≡ turn.place.moved → (GetsBytes turn.task → HoldsBytes turn made room)
    → reply.Read code.Ok reason (take moved room) ≡ whole_reply turn.task bytes w big level made
read-whole turn t max stop e bytes w big level made room reason moved r m holds =
    let why : reason ≡ read_reason max stop made = r ∙ ap (λ (k : Task). reason_by k made) e in
    let has : take moved room ≡ bytes_got made = ap (λ n. take n room) m ∙ holds (subst GetsBytes (sym e) tt) in
    ap (λ n. reply.Read code.Ok n (take moved room)) why
    ∙ ap (λ xs. reply.Read code.Ok (read_reason max stop made) xs) has
    ∙ ap (λ (k : Task). whole_reply k bytes w big level made) (sym e)

-- ---- the reply of a serial poll

-- a list that got one byte
record OneByte (ts : List Transfer) : Type 0 where
  value : ℕ
  end : Bool
  is : gots ts ≡ (value, end) ∷ []

-- one slot of a plan without a read takes a byte
fill-one : (front : List ℕ) (ts : List Transfer) → Fill (map This (map transfer.Cmd front) ++ AnyByte ∷ This spd ∷ This unt ∷ []) ts → OneByte ts
fill-one [] [] f = absurd f
fill-one [] (t ∷ []) f = absurd f.1
fill-one [] (t ∷ u ∷ []) f = absurd f.1.1
fill-one [] (t ∷ u ∷ v ∷ []) f =
    let b = f.0.0 in
    record {
      value = b.value;
      end = b.end;
      is = ap (λ t. gots (t ∷ u ∷ v ∷ [])) f.0.1
          ∙ ap (λ u. gots (transfer.Got b.value b.end ∷ u ∷ v ∷ [])) f.1.0
          ∙ ap (λ v. gots (transfer.Got b.value b.end ∷ spd ∷ v ∷ [])) f.1.1.0;
    }
fill-one [] (t ∷ u ∷ v ∷ x ∷ more) f = absurd f.1.1.1
fill-one (b ∷ bs) [] f = absurd f
fill-one (b ∷ bs) (t ∷ ts) f =
    let more : OneByte ts = fill-one bs ts f.1 in
    record { value = more.value; end = more.end; is = ap (λ t. gots (t ∷ ts)) f.0 ∙ more.is }

-- so a whole list of it got one byte
whole-one : (front : List ℕ) (made : List Transfer)
    → IsWhole (record { front = map This (map transfer.Cmd front) ++ AnyByte ∷ This spd ∷ This unt ∷ []; reading = None }) made → OneByte made
whole-one front made w =
    let one : OneByte w.0 = fill-one front w.0 w.3 in
    record { value = one.value; end = one.end; is = ap gots w.2 ∙ ap (λ rest. gots (w.0 ++ rest)) w.4 ∙ ap gots (append-nil w.0) ∙ one.is }

-- and so did that of a serial poll
poll-one : (t : Target) → IsDevice t → (polling : Bool) (own : ℕ) (made : List Transfer) → IsWhole (poll_plan t polling own) made → OneByte made
poll-one Interface d polling own made w = absurd d
poll-one (Device p None) d true own made w = whole-one (0x19 ∷ 0x3F ∷ (0x20 + own) ∷ 0x18 ∷ (0x40 + p) ∷ []) made w
poll-one (Device p None) d false own made w = whole-one (0x3F ∷ (0x20 + own) ∷ 0x18 ∷ (0x40 + p) ∷ []) made w
poll-one (Device p (Some s)) d true own made w = whole-one (0x19 ∷ 0x3F ∷ (0x20 + own) ∷ 0x18 ∷ (0x40 + p) ∷ (0x60 + s) ∷ []) made w
poll-one (Device p (Some s)) d false own made w = whole-one (0x3F ∷ (0x20 + own) ∷ 0x18 ∷ (0x40 + p) ∷ (0x60 + s) ∷ []) made w

-- the first byte of a room
first-byte : (room : List ℕ) (v : ℕ) → take 1 room ≡ v ∷ [] → slice_index_or room 0 0 ≡ v
first-byte [] v h = cc
first-byte (r ∷ rest) v h = let e : r ≡ v = cc in e

-- the byte of a serial poll stands in front of the room
pub poll-whole : (turn : TurnState) (t : Target) → turn.task ≡ Stb t → IsPlainTask turn.task → (bytes : List ℕ) (w : Wire) (big level : Bool)
    → (made : List Transfer) (left : Plan) → Reaches turn.task bytes made left turn.place → stand_of (Some left) ≡ Whole
    → (room : List ℕ) → (GetsBytes turn.task → HoldsBytes turn made room)
    → reply.Stb code.Ok (slice_index_or room 0 0) ≡ whole_reply turn.task bytes w big level made
poll-whole turn t e plain bytes w big level made left reaches whole room holds =
    let gets : GetsBytes turn.task = subst GetsBytes (sym e) tt in
    let device : IsPlainTask (Stb t) = subst IsPlainTask e plain in
    let goes : left_after (Some (poll_plan t turn.place.polling turn.place.own)) made ≡ Some left =
    subst (λ (k : Task). left_after (Some (plan k bytes turn.place.polling turn.place.own)) made ≡ Some left) e reaches.goes in
    let one : OneByte made =
    poll-one t device.1 turn.place.polling turn.place.own made ((whole-law (poll_plan t turn.place.polling turn.place.own) made).0 (ap stand_of goes ∙ whole)) in
    let count : turn.place.moved ≡ 1 = moved-got turn.task bytes made left turn.place plain reaches gets ∙ ap length one.is in
    let front : take 1 room ≡ one.value ∷ [] =
    sym (ap (λ n. take n room) count) ∙ holds gets ∙ ap (λ gs. map (λ (g : ℕ × Bool). g.0) gs) one.is in
    ap (λ n. reply.Stb code.Ok n) (first-byte room one.value front)
    ∙ sym (ap (λ gs. reply.Stb code.Ok (option_map_or (λ (g : ℕ × Bool). g.0) (last_of None gs) 0)) one.is)
    ∙ ap (λ (k : Task). whole_reply k bytes w big level made) (sym e)

-- ---- the two bytes of a bus status

-- a byte and a zero at the front of a room
pub status-bytes : (room : List ℕ) (number : ℕ) (big : Bool) → 2 ≤ length room → number < 256
    → take 2 (slice_set (slice_set room (bool_byte big) number) (bool_byte (not big)) 0) ≡ two_bytes big number
status-bytes [] number big h small = absurd (omega arith)
status-bytes (x ∷ []) number big h small = absurd (omega arith)
status-bytes (x ∷ y ∷ rest) number true h small =
    let high : 0 ≡ number / 256 = omega arith in
    let low : number ≡ number % 256 = omega arith in
    ap (λ n. n ∷ number ∷ []) high ∙ ap (λ n. number / 256 ∷ n ∷ []) low
status-bytes (x ∷ y ∷ rest) number false h small =
    let high : 0 ≡ number / 256 = omega arith in
    let low : number ≡ number % 256 = omega arith in
    ap (λ n. n ∷ 0 ∷ []) low ∙ ap (λ n. number % 256 ∷ n ∷ []) high

-- ---- a turn that is stopped

-- how many bytes a list put, and how many it got, which stand in front of the room
pub record Counts (moves : List Transfer) (room : List ℕ) (puts : ℕ × ℕ) : Type 0 where
  pub few : puts.1 ≤ READ_MAX
  pub puts_is : puts_made moves ≡ puts.0
  pub got_is : bytes_got moves ≡ take puts.1 room

-- of the connection's own turn these are its bytes
pub counts-some : (running : Option Running) (made : List Transfer) (conn : ℕ) (r : Running) (room : List ℕ) (puts : ℕ × ℕ)
    → running_of running conn ≡ Some r → puts.1 ≤ READ_MAX → (puts_made made ≡ puts.0) × (bytes_got made ≡ take puts.1 room)
    → Counts (moves_of (turn_of (turn_shown running made) conn)) room puts
counts-some None made conn r room puts e few both = cc
counts-some (Some q) made conn r room puts e few both = by (q.conn == conn) e
  where
    by : (same : Bool) → cond same (Some q) None ≡ Some r
        → Counts (moves_of (cond same (Some (record { connection = q.conn; begun = q.turn.begun; moves = made })) None)) room puts
    by true e = record { few = few; puts_is = both.0; got_is = both.1 }
    by false e = cc

-- and without one there are none
pub counts-none : (running : Option Running) (made : List Transfer) (conn : ℕ) (room : List ℕ) → running_of running conn ≡ None
    → Counts (moves_of (turn_of (turn_shown running made) conn)) room (0, 0)
counts-none None made conn room e = record { few = omega arith; puts_is = refl; got_is = refl }
counts-none (Some q) made conn room e = by (q.conn == conn) e
  where
    by : (same : Bool) → cond same (Some q) None ≡ None
        → Counts (moves_of (cond same (Some (record { connection = q.conn; begun = q.turn.begun; moves = made })) None)) room (0, 0)
    by true e = cc
    by false e = record { few = omega arith; puts_is = refl; got_is = refl }

-- the bytes of a reply that was stopped stand in front of the room
pub stopped-front : (asked : Call) (error : ErrorCode) (moves : List Transfer) (room : List ℕ) (n : ℕ) → n ≤ length room → bytes_got moves ≡ take n room
    → take (length (reply_bytes (stopped_reply asked error moves))) room ≡ reply_bytes (stopped_reply asked error moves)
stopped-front (call.Read lid request io_timeout lock_timeout flags term) error moves room n h e =
    ap (λ xs. take (length xs) room) e ∙ ap (λ k. take k room) (length-take-le n room h) ∙ sym e
stopped-front _ error moves room n h e = refl

-- and they are few
pub stopped-few : (asked : Call) (error : ErrorCode) (moves : List Transfer) (room : List ℕ) (n : ℕ) → n ≤ length room → bytes_got moves ≡ take n room
    → n ≤ READ_MAX → length (reply_bytes (stopped_reply asked error moves)) ≤ READ_MAX
stopped-few (call.Read lid request io_timeout lock_timeout flags term) error moves room n h e few =
    omega (arith, ap length e ∙ length-take-le n room h)
stopped-few _ error moves room n h e few = omega arith

-- a call that is there
pub some-of : {A : Type 0} (x : Option A) → IsSome x → (a : A) × (x ≡ Some a)
some-of None h = absurd (search rules)
some-of (Some a) h = (a, refl)

-- ---- a turn that is whole

-- the turn of a running one, which is whole, has nothing left
pub whole-left : {B : Type 0} (means : B → Means) (k : KernelState B) (r : Running) (runs : RunsTurn means k r) → k.running ≡ Some r
    → ((u : Turn) → (interleaved_of means k).turn ≡ Some u → turn_stand (interleaved_of means k) u u.moves ≡ Whole)
    → stand_of (Some runs.begins.left) ≡ Whole
whole-left means k r runs e whole =
    let u : Turn = record { connection = r.conn; begun = r.turn.begun; moves = k.made } in
    let bytes = bytes_of runs.asked.call in
    let has = runs.begins.had_made in
    let before : before_shown k.running k.before (means k.bus).wire ≡ k.before = ap (λ q. before_shown q k.before (means k.bus).wire) e in
    let stands : turn_stand (interleaved_of means k) u k.made ≡ Whole = whole u (ap (λ q. turn_shown q k.made) e) in
    let called : call_stand k.tables (interleaved_of means k).before r.conn k.made (Some runs.asked) ≡ Whole =
    sym (ap (λ p. call_stand k.tables (interleaved_of means k).before r.conn k.made p) runs.call_at) ∙ stands in
    let job : stand_of_job (interleaved_of means k).before runs.asked.call k.made (Some r.turn.task) ≡ Whole =
    sym (ap (λ j. stand_of_job (interleaved_of means k).before runs.asked.call k.made j) runs.job_is) ∙ called in
    let on : stand (plan r.turn.task bytes k.before.polling k.before.own) k.made ≡ Whole =
    sym (ap (λ (w : Wire). stand (plan r.turn.task bytes w.polling w.own) k.made) before) ∙ job in
    sym (ap stand_of has.reaches.goes)
    ∙ ap (λ polling. stand (plan r.turn.task bytes polling r.turn.place.own) k.made) has.polling
    ∙ ap (λ own. stand (plan r.turn.task bytes k.before.polling own) k.made) has.own
    ∙ on
