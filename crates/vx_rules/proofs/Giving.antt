-- The numbers that entries give: each is the one that comes next, and a history gives none twice.
use Rattle.std.proofs.Common.{◌≡◌, ◌<◌, ◌≤◌, ◌+◌, ◌&&◌, not, ℕ, Bool, true, false, cond, List, [], ◌∷◌, ◌++◌, Option, Some, None, is_none, Result, Ok, Err, refl, sym, ap, subst, ◌∙◌, arith}
use Rattle.std.specs.Option.{option_map, option_map_or}
use Rattle.std.specs.List.{All, AllPairs}
use Rattle.std.proofs.lemmas.Bool.{false≢true, and_parts, eqb-true}
use Rattle.std.proofs.lemmas.Option.{cond_some, option_and_then_some}
use Rattle.std.proofs.lemmas.List.Elements.{All-cons, All-weaker}
use Rattle.std.proofs.lemmas.List.Kept.{AllPairs-cons}
use Rattle.std.proofs.Math.Nat.{le_refl}
use Rattle.vx_lemmas.proofs.Laws.Options.{mapped}
use Rattle.vx_calls.specs.declared.codes.ErrorCode.{ErrorCode}
use Rattle.vx_calls.specs.declared.codes.ErrorCode.TheVariants as code
use Rattle.vx_calls.specs.declared.targets.Target.{Target}
use Rattle.vx_calls.specs.Target.{comma_parts, target}
use Rattle.vx_calls.specs.Call.{Call}
use Rattle.vx_calls.specs.Call as call
use Rattle.vx_calls.specs.Reply.{Reply}
use Rattle.vx_calls.specs.Reply as reply
use Rattle.vx_488.specs.declared.transfers.Transfer.{Transfer}
use Rattle.vx_488.specs.declared.wire.Wire.{Wire}
use Rattle.vx_488.specs.Wire.{wire_after}
use Rattle.vx_plan.specs.declared.tasks.Task.{Task}
use Rattle.vx_plan.specs.declared.tasks.Task.TheVariants as task
use Rattle.vx_plan.specs.Plan.{Stand, Whole, Part, Off}
use Rattle.vx_plan.specs.Roles.{has_role}
use Rattle.vx_plan.specs.Results.{whole_reply}
use Rattle.vx_rules.specs.Table.{Link, is_live}
use Rattle.vx_rules.specs.Locks.{holds, with_lock}
use Rattle.vx_rules.specs.SrqState.{SrqState, Channel, channel_at, with_new_channel, new_channel, sampled, taken}
use Rattle.vx_rules.proofs.Laws.Slots.{sampled-next, made-first}
use Rattle.vx_rules.specs.State.{Pending, Tables, State, first, pending_at, with_pending, with_connection, without_connection}
use Rattle.vx_rules.specs.Calls.{is_bus_call, asks_dial, is_big, bytes_of, has_passed, io_timeout_of}
use Rattle.vx_rules.specs.Checks.{NamedLink, NoLink, DeadLink, OnLink, named_link, check_create}
use Rattle.vx_rules.specs.Lines.{Bar, Admission, Refused, Passed, kept_off, lock_lines, checked_lines, bar_against, later_lines, first_lines}
use Rattle.vx_rules.specs.Effects.{task_of, stopped_reply, create, locked, effect_on, effect, settle}
use Rattle.vx_rules.specs.Decide.{BusInput, is_quiet, level_fits, stand_on, turn_answer, bus_answer, dialed_answer, by_lines, settles, decide}
use Rattle.vx_rules.specs.Entry.{Entry, Up, Down, Arrive, Answer, Abort, Sample, Take}
use Rattle.vx_rules.specs.AtomicStep.{atomic_step, answer_to, answered, arrived, marked, abort_tables}
use Rattle.vx_rules.specs.Lists.{along}
use Rattle.vx_rules.specs.Sound.{IsSound, has_slot}
use Rattle.vx_rules.specs.Numbers.{connection_given, link_told, link_given, channel_number, channel_given, links_given, connections_given, channels_given, NumbersRiseLaw, LinkGivenLaw, ConnectionGivenLaw, ChannelGivenLaw, LinksGivenOnceLaw, ConnectionsGivenOnceLaw, ChannelsGivenOnceLaw}
use Rattle.vx_rules.proofs.Laws.Naming.{IsError, parts-well, ChecksWell, create-checks}
use Rattle.vx_rules.proofs.Laws.{up-next}
use Rattle.vx_rules.proofs.Laws.Keeping.{first-sound}
use Rattle.vx_rules.proofs.Laws.Walks.{atomic-sound, along-none, legal-sound}
use Rattle.vx_rules.proofs.EntryLaws.{answer-given}
use Rattle.vx_rules.proofs.Laws.Passing.{port_of}

-- What is given of one kind of number: none, and the next one stays; or the next one, which is used up.
data Takes (given : List ℕ) (next after : ℕ) : Type 0 where
  Stays : given ≡ [] → after ≡ next → Takes given next after
  Uses : given ≡ next ∷ [] → after ≡ next + 1 → Takes given next after

-- the next number doesn't fall
takes-rises : (given : List ℕ) (next after : ℕ) → Takes given next after → next ≤ after
takes-rises given next after (Stays none same) = omega arith
takes-rises given next after (Uses one more) = omega arith

-- ---- what refuses a create_link is an error

-- an admission that refuses
abbrev RefusesWell : Admission → Type 0
RefusesWell (Refused e) = IsError e
RefusesWell _ = Unit {0}

-- a lock, what comes behind the checks, and a mark
lock-refuses : (p : Pending) (now : ℕ) (bar : Option Bar) → RefusesWell (lock_lines p now bar)
lock-refuses p now None = tt
lock-refuses p now (Some bar) = by _ where
  by : (b : Bool) → RefusesWell (kept_off bar b)
  by true = tt
  by false = refl

checked-refuses : (p : Pending) (now : ℕ) (refused : Option ErrorCode) (bar : Option Bar) → ChecksWell refused → RefusesWell (checked_lines p now refused bar)
checked-refuses p now None bar well = lock-refuses p now bar
checked-refuses p now (Some e) bar well = well

first-refuses : (aborted : Bool) (l : Admission) → RefusesWell l → RefusesWell (cond aborted (Refused code.Abort) l)
first-refuses true l well = refl
first-refuses false l well = well

abbrev is_create : Call → Bool
is_create (call.CreateLink client lock lock_timeout device) = true
is_create _ = false

-- so the first lines refuse a create_link with an error
create-refuses : (t : Tables) (own conn : ℕ) (settling : Bool) (asked : Call) (arrival : ℕ) (aborted : Bool) (now : ℕ) → is_create asked ≡ true
    → RefusesWell (first_lines t own conn settling (record { call = asked; arrival = arrival; aborted = aborted }) now)
create-refuses t own conn settling (call.CreateLink client lock lock_timeout device) arrival aborted now h =
    let asked = call.CreateLink client lock lock_timeout device in
    let p : Pending = record { call = asked; arrival = arrival; aborted = aborted } in
    first-refuses aborted (later_lines t own conn settling p now)
    (checked-refuses p now (check_create t (target device own)) (bar_against t None own now conn NoLink asked)
    (create-checks t (target device own) (parts-well own (comma_parts device))))
create-refuses t own conn settling _ arrival aborted now h = absurd (false≢true h)

-- the reply of a call that ends with an error tells of no link
stopped-told : (asked : Call) (error : ErrorCode) (moves : List Transfer) → (is_create asked ≡ true → IsError error) → link_told (stopped_reply asked error moves) ≡ []
stopped-told (call.CreateLink client lock lock_timeout device) error moves h = ap (λ b. cond b (0 ∷ []) []) (h refl)
stopped-told _ error moves h = refl

-- nor does that of a whole job
whole-told : (job : Task) (bytes : List ℕ) (w : Wire) (big level : Bool) (moves : List Transfer) → link_told (whole_reply job bytes w big level moves) ≡ []
whole-told (task.Write t len end) bytes w big level moves = refl
whole-told _ bytes w big level moves = refl

-- ---- what an answer gives

-- a connection's channel is new, with the next number
record MakesChannel (d : SrqState) (conn : ℕ) (u : SrqState) : Type 0 where
  program : ℕ
  version : ℕ
  is : u ≡ with_new_channel d conn program version

-- only a dial that came up makes a channel
abbrev ChannelStep : SrqState → ℕ → Option Bool → SrqState → Type 0
ChannelStep d conn (Some true) u = MakesChannel d conn u
ChannelStep d conn _ u = u.next_channel ≡ d.next_channel

-- A reply and tables behind it: no connection's number is given, a link's where the reply tells of it, and a channel's
-- where a dial came up.
record Gives (t : Tables) (conn : ℕ) (dialed : Option Bool) (d : Reply × Tables) : Type 0 where
  connections : d.1.next_connection ≡ t.next_connection
  links : Takes (link_told d.0) t.links.next d.1.links.next
  channels : ChannelStep t.srq_state conn dialed d.1.srq_state

abbrev FoundGives : Tables → ℕ → Option Bool → Option (Reply × Tables) → Type 0
FoundGives t conn dialed None = Unit {0}
FoundGives t conn dialed (Some d) = Gives t conn dialed d

-- by effect: a link that is made has the next number
create-gives : (t : Tables) (conn : ℕ) (lock : Bool) (named : Result Target ErrorCode) → FoundGives t conn None (create t conn lock named)
create-gives t conn lock (Err error) = tt
create-gives t conn true (Ok named) = record { connections = refl; links = Uses refl refl; channels = refl }
create-gives t conn false (Ok named) = record { connections = refl; links = Uses refl refl; channels = refl }

locked-gives : (t : Tables) (conn : ℕ) (l : Link) → Gives t conn None (reply.Error code.Ok, locked t l)
locked-gives t conn l = by (holds t.locks l.number) where
  by : (b : Bool) → Gives t conn None (reply.Error code.Ok, cond b t (record t { locks = with_lock t.locks l.number l.target }))
  by true = record { connections = refl; links = Stays refl refl; channels = refl }
  by false = record { connections = refl; links = Stays refl refl; channels = refl }

effect_on-gives : (t : Tables) (conn : ℕ) (l : Link) (asked : Call) → FoundGives t conn None (effect_on t conn l asked)
effect_on-gives t conn l (call.Lock lid flags lock_timeout) = locked-gives t conn l
effect_on-gives t conn l (call.Unlock lid) = record { connections = refl; links = Stays refl refl; channels = refl }
effect_on-gives t conn l (call.EnableSrq lid enable handle) = record { connections = refl; links = Stays refl refl; channels = refl }
effect_on-gives t conn l (call.DestroyLink lid) = record { connections = refl; links = Stays refl refl; channels = refl }
effect_on-gives t conn l _ = tt

effect-gives : (t : Tables) (own conn : ℕ) (about : NamedLink) (asked : Call) → FoundGives t conn None (effect t own conn about asked)
effect-gives t own conn (OnLink l) asked = effect_on-gives t conn l asked
effect-gives t own conn NoLink (call.CreateLink client lock lock_timeout device) = create-gives t conn lock (target device own)
effect-gives t own conn NoLink call.DestroyIntr = record { connections = refl; links = Stays refl refl; channels = refl }
effect-gives t own conn NoLink _ = tt
effect-gives t own conn DeadLink asked = tt

-- a channel that is made has the next number
settle-gives : (t : Tables) (conn : ℕ) (asked : Call) (up : Bool) → FoundGives t conn (Some up) (settle t conn asked up)
settle-gives t conn (call.CreateIntr host port prog vers family) true =
    record { connections = refl; links = Stays refl refl; channels = record { program = prog; version = vers; is = refl } }
settle-gives t conn (call.CreateIntr host port prog vers family) false = record { connections = refl; links = Stays refl refl; channels = refl }
settle-gives t conn _ up = tt

-- the walk down the lines, from the last ones up
dialed-gives : (t : Tables) (conn : ℕ) (p : Pending) (o : BusInput) (dialed : Option Bool) → FoundGives t conn dialed (dialed_answer t conn p o dialed)
dialed-gives t conn p o None = tt
dialed-gives t conn p o (Some up) = by (not o.failed && not o.level) where
  by : (b : Bool) → FoundGives t conn (Some up) (cond b (settle t conn p.call up) None)
  by true = settle-gives t conn p.call up
  by false = tt

-- a reply that rests on no dial, and tells of no link
abbrev FoundQuiet : Option Bool → Option Reply → Type 0
FoundQuiet dialed None = Unit {0}
FoundQuiet dialed (Some r) = (is_none dialed ≡ true) × (link_told r ≡ [])

-- whichever of two was taken, and one that is taken under a test
quiet-both : (dialed : Option Bool) (b : Bool) (x y : Option Reply) → FoundQuiet dialed x → FoundQuiet dialed y → FoundQuiet dialed (cond b x y)
quiet-both dialed true x y this that = this
quiet-both dialed false x y this that = that

quiet-where : (dialed : Option Bool) (b : Bool) (x : Option Reply) → (b ≡ true → FoundQuiet dialed x) → FoundQuiet dialed (cond b x None)
quiet-where dialed true x is = is refl
quiet-where dialed false x is = tt

-- a turn, and a bus call
turn-quiet : (w : Wire) (p : Pending) (now : ℕ) (o : BusInput) (job : Task) (s : Stand) → is_none o.dialed ≡ true → FoundQuiet o.dialed (turn_answer w p now o job s)
turn-quiet w p now o job Whole none =
    quiet-where o.dialed (not o.failed && level_fits job o.level) (Some (whole_reply job (bytes_of p.call) w (is_big p.call) o.level o.moves))
    (λ h. (none, whole-told job (bytes_of p.call) w (is_big p.call) o.level o.moves))
turn-quiet w p now o job Part none =
    let fault = Some (stopped_reply p.call code.BusFault o.moves) in
    let late = Some (stopped_reply p.call code.Timeout o.moves) in
    let passed = has_passed (io_timeout_of p.call) o.begun now in
    quiet-both o.dialed o.level None (cond o.failed fault (cond passed late None)) tt
    (quiet-both o.dialed o.failed fault (cond passed late None) (none, stopped-told p.call code.BusFault o.moves (λ h. refl))
    (quiet-where o.dialed passed late (λ h. (none, stopped-told p.call code.Timeout o.moves (λ h. refl)))))
turn-quiet w p now o job Off none = tt

-- a quiet answer rests on no dial
quiet-none : (o : BusInput) → is_quiet o ≡ true → is_none o.dialed ≡ true
quiet-none o h = (and_parts (not o.failed) (is_none o.dialed) (and_parts (not o.failed && is_none o.dialed) (not o.level) h).0).1

bus-quiet : (w : Wire) (p : Pending) (now : ℕ) (o : BusInput) (job : Option Task) → FoundQuiet o.dialed (bus_answer w p now o job)
bus-quiet w p now o None = tt
bus-quiet w p now o (Some job) =
    let turn = turn_answer w p now o job (stand_on w p.call job o.moves) in
    let fault = Some (stopped_reply p.call code.BusFault o.moves) in
    quiet-both o.dialed (has_role job w) (cond (is_none o.dialed) turn None) (cond (is_quiet o) fault None)
    (quiet-where o.dialed (is_none o.dialed) turn (turn-quiet w p now o job (stand_on w p.call job o.moves)))
    (quiet-where o.dialed (is_quiet o) fault (λ h. (quiet-none o h, stopped-told p.call code.BusFault o.moves (λ h. refl))))

-- without a dial the channel numbers stay
quiet-step : (d : SrqState) (conn : ℕ) (dialed : Option Bool) → is_none dialed ≡ true → ChannelStep d conn dialed d
quiet-step d conn None none = refl
quiet-step d conn (Some up) none = absurd (false≢true none)

quiet-gives : (t : Tables) (conn : ℕ) (dialed : Option Bool) (o : Option Reply) → FoundQuiet dialed o → FoundGives t conn dialed (option_map (λ given. (given, t)) o)
quiet-gives t conn dialed None quiet = tt
quiet-gives t conn dialed (Some r) quiet = record { connections = refl; links = Stays quiet.1 refl; channels = quiet-step t.srq_state conn dialed quiet.0 }

-- an effect, where there was no dial
undialed-gives : (t : Tables) (own conn : ℕ) (about : NamedLink) (asked : Call) (dialed : Option Bool) → is_none dialed ≡ true → FoundGives t conn dialed (effect t own conn about asked)
undialed-gives t own conn about asked None none = effect-gives t own conn about asked
undialed-gives t own conn about asked (Some up) none = absurd (false≢true none)

-- whichever of two was taken, and one that is taken under a test
either : (t : Tables) (conn : ℕ) (dialed : Option Bool) (b : Bool) (x y : Option (Reply × Tables)) → FoundGives t conn dialed x → FoundGives t conn dialed y
    → FoundGives t conn dialed (cond b x y)
either t conn dialed true x y this that = this
either t conn dialed false x y this that = that

where_true : (t : Tables) (conn : ℕ) (dialed : Option Bool) (b : Bool) (x : Option (Reply × Tables)) → (b ≡ true → FoundGives t conn dialed x)
    → FoundGives t conn dialed (cond b x None)
where_true t conn dialed true x is = is refl
where_true t conn dialed false x is = tt

-- a refusal's reply tells of no link
abbrev RefusesTold : Call → Admission → Type 0
RefusesTold asked (Refused error) = is_create asked ≡ true → IsError error
RefusesTold asked _ = Unit {0}

refuses-told : (asked : Call) (l : Admission) → (is_create asked ≡ true → RefusesWell l) → RefusesTold asked l
refuses-told asked (Refused error) well = well
refuses-told asked _ well = tt

-- what each of the first lines gives
lines-give : (t : Tables) (w : Wire) (conn : ℕ) (p : Pending) (now : ℕ) (o : BusInput) (l : Admission) → RefusesTold p.call l → FoundGives t conn o.dialed (by_lines t w conn p now o l)
lines-give t w conn p now o (Refused error) told =
    where_true t conn o.dialed (is_quiet o) (Some (stopped_reply p.call error o.moves, t))
    (λ h. quiet-gives t conn o.dialed (Some (stopped_reply p.call error o.moves)) (quiet-none o h, stopped-told p.call error o.moves told))
lines-give t w conn p now o Passed told =
    let about = named_link t conn p.call in
    let dial = dialed_answer t conn p o o.dialed in
    let bus = bus_answer w p now o (task_of about p.call) in
    let made = effect t w.own conn about p.call in
    let on_bus = option_map (λ (given : Reply). (given, t)) bus in
    either t conn o.dialed (asks_dial p.call) dial (cond (is_bus_call p.call) on_bus (cond (is_quiet o) made None)) (dialed-gives t conn p o o.dialed)
    (either t conn o.dialed (is_bus_call p.call) on_bus (cond (is_quiet o) made None)
    (quiet-gives t conn o.dialed bus (bus-quiet w p now o (task_of about p.call)))
    (where_true t conn o.dialed (is_quiet o) made (λ h. undialed-gives t w.own conn about p.call o.dialed (quiet-none o h))))
lines-give t w conn p now o _ told = tt

-- so does every answer
decide-gives : (t : Tables) (w : Wire) (conn : ℕ) (p : Pending) (now : ℕ) (o : BusInput) (d : Reply × Tables) → decide t w conn p now o ≡ Some d → Gives t conn o.dialed d
decide-gives t w conn p now o d h =
    let lines = first_lines t w.own conn (settles o) p now in
    subst (FoundGives t conn o.dialed) h
    (lines-give t w conn p now o lines (refuses-told p.call lines (create-refuses t w.own conn (settles o) p.call p.arrival p.aborted now)))

-- ---- what an entry gives

-- An entry gives the next number of each kind or none; that it leads to a channel with it rests on sound tables.
record EntryGives (e : Entry) (s t : State) : Type 0 where
  connections : Takes (connection_given e) s.tables.next_connection t.tables.next_connection
  links : Takes (link_given e) s.tables.links.next t.tables.links.next
  rises : s.tables.srq_state.next_channel ≤ t.tables.srq_state.next_channel
  channels : IsSound s.tables → Takes (channel_given e (Some t)) s.tables.srq_state.next_channel t.tables.srq_state.next_channel

-- an entry that gives no number
nothing-given : (e : Entry) (s t : State) → connection_given e ≡ [] → link_given e ≡ [] → channel_given e (Some t) ≡ [] → t.tables.next_connection ≡ s.tables.next_connection
    → t.tables.links.next ≡ s.tables.links.next → t.tables.srq_state.next_channel ≡ s.tables.srq_state.next_channel → EntryGives e s t
nothing-given e s t no_connection no_link no_channel connections links channels = record {
  connections = Stays no_connection connections;
  links = Stays no_link links;
  rises = omega (arith, channels);
  channels = λ sound. Stays no_channel channels;
}

-- the connection has the channel, as it was made
channel-made : (d : SrqState) (conn program version : ℕ) → has_slot d conn ≡ true
    → channel_at (with_new_channel d conn program version) conn ≡ Some (new_channel d.next_channel program version)
channel-made d conn program version port = made-first conn (Some (new_channel d.next_channel program version)) d.slots port

-- an answer doesn't lower the next channel number
step-rises : (d u : SrqState) (conn : ℕ) (dialed : Option Bool) → ChannelStep d conn dialed u → d.next_channel ≤ u.next_channel
step-rises d u conn None same = omega (arith, same)
step-rises d u conn (Some false) same = omega (arith, same)
step-rises d u conn (Some true) made = omega (arith, ap (λ (x : SrqState). x.next_channel) made.is)

-- its number is the next one, and is used up
made-uses : (d : SrqState) (conn : ℕ) (t : State) → MakesChannel d conn t.tables.srq_state → has_slot d conn ≡ true
    → (channel_number conn t ≡ d.next_channel ∷ []) × (t.tables.srq_state.next_channel ≡ d.next_channel + 1)
made-uses d conn t made port = (
  ap (λ (x : SrqState). option_map_or (λ (c : Channel). c.number ∷ []) (channel_at x conn) []) made.is
      ∙ ap (λ (o : Option Channel). option_map_or (λ (c : Channel). c.number ∷ []) o []) (channel-made d conn made.program made.version port),
  ap (λ (x : SrqState). x.next_channel) made.is,
)

-- what an answer gives of channel numbers
answer-channels : (conn now begun : ℕ) (moves : List Transfer) (failed : Bool) (dialed : Option Bool) (level : Bool) (told : Reply) (d : SrqState) (t : State)
    → ChannelStep d conn dialed t.tables.srq_state → has_slot d conn ≡ true
    → Takes (channel_given (Answer conn now begun moves failed dialed level told) (Some t)) d.next_channel t.tables.srq_state.next_channel
answer-channels conn now begun moves failed None level told d t same port = Stays refl same
answer-channels conn now begun moves failed (Some false) level told d t same port = Stays refl same
answer-channels conn now begun moves failed (Some true) level told d t made port =
    let uses = made-uses d conn t made port in
    Uses uses.0 uses.1

-- the call of a connection that is answered, and what its answer gives
record Answered (s t : State) (conn : ℕ) (dialed : Option Bool) (told : Reply) : Type 0 where
  call : Pending
  here : pending_at s.tables conn ≡ Some call
  connections : t.tables.next_connection ≡ s.tables.next_connection
  links : Takes (link_told told) s.tables.links.next t.tables.links.next
  channels : ChannelStep s.tables.srq_state conn dialed t.tables.srq_state

-- the answer's own parts, from what decided it
answer-parts : (s t : State) (conn now begun : ℕ) (moves : List Transfer) (failed : Bool) (dialed : Option Bool) (level : Bool) (told : Reply)
    → atomic_step s (Answer conn now begun moves failed dialed level told) ≡ Some t → Answered s t conn dialed told
answer-parts s t conn now begun moves failed dialed level told h =
    let o : BusInput = record { begun = begun; moves = moves; failed = failed; dialed = dialed; level = level } in
    option_and_then_some (answer_to s conn now o) (pending_at s.tables conn) (told, t)
    (answer-given s t conn now begun moves failed dialed level told h).found (λ p here made.
    let found = mapped (answered s conn now moves) (decide s.tables s.wire conn p now o) (told, t) made in
    let gives = decide-gives s.tables s.wire conn p now o found.0 found.1 in
    subst (λ (x : Reply × State). Answered s x.1 conn dialed x.0) found.2
    (record { call = p; here = here; connections = gives.connections; links = gives.links; channels = gives.channels }))

-- by entry: an answer, an abort, and all of them
answer-gives : (s t : State) (conn now begun : ℕ) (moves : List Transfer) (failed : Bool) (dialed : Option Bool) (level : Bool) (told : Reply)
    → Answered s t conn dialed told → EntryGives (Answer conn now begun moves failed dialed level told) s t
answer-gives s t conn now begun moves failed dialed level told a = record {
  connections = Stays refl a.connections;
  links = a.links;
  rises = step-rises s.tables.srq_state t.tables.srq_state conn dialed a.channels;
  channels = λ sound.
      answer-channels conn now begun moves failed dialed level told s.tables.srq_state t a.channels (port_of s.tables conn a.call sound a.here);
}

abort-gives : (s : State) (conn lid : ℕ) (told : ErrorCode) → EntryGives (Abort conn lid told) s (record s { tables = abort_tables s.tables lid })
abort-gives s conn lid told = by (is_live s.tables.links lid) where
  by : (b : Bool) → EntryGives (Abort conn lid told) s (record s { tables = cond b (marked s.tables lid) s.tables })
  by true = nothing-given (Abort conn lid told) s (record s { tables = marked s.tables lid }) refl refl refl refl refl refl
  by false = nothing-given (Abort conn lid told) s s refl refl refl refl refl refl

entry-gives : (e : Entry) (s t : State) → atomic_step s e ≡ Some t → EntryGives e s t
entry-gives (Up conn r) s t h =
    let u : State = record s { tables = with_connection s.tables r } in
    let parts = cond_some _ u t h in
    subst (EntryGives (Up conn r) s) parts.1 (record {
      connections = Uses (ap (λ n. n ∷ []) (eqb-true conn s.tables.next_connection (and_parts _ _ parts.0).0)) refl;
      links = Stays refl refl;
      rises = omega (arith, up-next s.tables r);
      channels = λ sound. Stays refl (up-next s.tables r);
    })
entry-gives (Down conn moves) s t h =
    let u : State = record s { tables = without_connection s.tables conn; wire = wire_after s.wire moves } in
    subst (EntryGives (Down conn moves) s) (cond_some _ u t h).1 (nothing-given (Down conn moves) s u refl refl refl refl refl refl)
entry-gives (Arrive conn asked now) s t h =
    let u : State = record s { tables = with_pending s.tables conn (Some (arrived asked now)); moment = now } in
    subst (EntryGives (Arrive conn asked now) s) (cond_some _ u t h).1 (nothing-given (Arrive conn asked now) s u refl refl refl refl refl refl)
entry-gives (Answer conn now begun moves failed dialed level told) s t h =
    answer-gives s t conn now begun moves failed dialed level told (answer-parts s t conn now begun moves failed dialed level told h)
entry-gives (Abort conn lid told) s t h =
    subst (EntryGives (Abort conn lid told) s) (cond_some _ (record s { tables = abort_tables s.tables lid }) t h).1 (abort-gives s conn lid told)
entry-gives (Sample now srq) s t h =
    let u : State = record s { tables = record s.tables { srq_state = sampled s.tables.srq_state srq }; moment = now } in
    subst (EntryGives (Sample now srq) s) (cond_some _ u t h).1 (nothing-given (Sample now srq) s u refl refl refl refl refl (sampled-next s.tables.srq_state srq))
entry-gives (Take conn chan told) s t h =
    let u : State = record s { tables = record s.tables { srq_state = taken s.tables.srq_state conn chan } } in
    subst (EntryGives (Take conn chan told) s) (cond_some _ u t h).1 (nothing-given (Take conn chan told) s u refl refl refl refl refl refl)

-- ---- what a history gives

-- numbers that rise, from this one on
record Rising (next : ℕ) (ns : List ℕ) : Type 0 where
  above : All (λ n. next ≤ n) ns
  pairs : AllPairs (λ m n. m < n) ns

-- none do
rising-none : (next : ℕ) → Rising next []
rising-none next = record { above = λ k d h. absurd (omega arith); pairs = λ i j d before h. absurd (omega arith) }

-- what is given in front of them
rising-more : (given : List ℕ) (next after : ℕ) (rest : List ℕ) → Takes given next after → Rising after rest → Rising next (given ++ rest)
rising-more given next after rest (Stays none same) r = subst (λ x. Rising next (x ++ rest)) (sym none) (subst (λ n. Rising n rest) same r)
rising-more given next after rest (Uses one more) r =
    subst (λ x. Rising next (x ++ rest)) (sym one) (record {
      above = All-cons (λ n. next ≤ n) next rest (le_refl next) (All-weaker (λ n. after ≤ n) (λ n. next ≤ n) (λ n h. omega (arith, more, h)) rest r.above);
      pairs = AllPairs-cons (λ m n. m < n) next rest (All-weaker (λ n. after ≤ n) (λ n. next < n) (λ n h. omega (arith, more, h)) rest r.above) r.pairs;
    })

-- one kind of number along a history: the next one in a state, what an entry gives, and all that a history gives
module _ (next : State → ℕ) (gives : Entry → Option State → List ℕ) (all : Option State → List Entry → List ℕ)
    (none : (s : State) → all (Some s) [] ≡ [])
    (more : (s : State) (e : Entry) (es : List Entry) → all (Some s) (e ∷ es) ≡ gives e (atomic_step s e) ++ all (atomic_step s e) es)
    (takes : (e : Entry) (s t : State) → IsSound s.tables → atomic_step s e ≡ Some t → Takes (gives e (Some t)) (next s) (next t)) where
  given-along : (history : List Entry) (s t : State) → IsSound s.tables → along atomic_step (Some s) history ≡ Some t → Rising (next s) (all (Some s) history)
  given-along [] s t sound h = subst (Rising (next s)) (sym (none s)) (rising-none (next s))
  given-along (e ∷ es) s t sound h = by (atomic_step s e) refl h (given-along es) where
    by : (o : Option State) → atomic_step s e ≡ o → along atomic_step o es ≡ Some t
        → ((s t : State) → IsSound s.tables → along atomic_step (Some s) es ≡ Some t → Rising (next s) (all (Some s) es)) → Rising (next s) (all (Some s) (e ∷ es))
    by None is h rest = absurd (along-none es t h)
    by (Some m) is h rest =
        subst (Rising (next s)) (sym (more s e es ∙ ap (λ o. gives e o ++ all o es) is))
        (rising-more (gives e (Some m)) (next s) (next m) (all (Some m) es) (takes e s m sound is) (rest m t (atomic-sound s m e sound is) h))

-- ---- the laws

pub numbers_rise-law : NumbersRiseLaw
numbers_rise-law s t e h =
    let g = entry-gives e s t h in (
      takes-rises (link_given e) s.tables.links.next t.tables.links.next g.links,
      takes-rises (connection_given e) s.tables.next_connection t.tables.next_connection g.connections,
      g.rises,
    )

-- a number that is given is the next one
used : (n next after : ℕ) → Takes (n ∷ []) next after → (n ≡ next) × (after ≡ n + 1)
used n next after (Stays none same) = cc
used n next after (Uses one more) = let is : n ≡ next = cc in (is, more ∙ ap (λ m. m + 1) (sym is))

pub link_given-law : LinkGivenLaw
link_given-law s t conn now begun moves failed dialed level lid abort_port max h =
    used lid s.tables.links.next t.tables.links.next
    (answer-parts s t conn now begun moves failed dialed level (reply.CreateLink code.Ok lid abort_port max) h).links

pub connection_given-law : ConnectionGivenLaw
connection_given-law s t conn r h =
    used conn s.tables.next_connection t.tables.next_connection (entry-gives (Up conn r) s t h).connections

pub channel_given-law : ChannelGivenLaw
channel_given-law abort_port history s t conn now begun moves failed level told legal h =
    let a = answer-parts s t conn now begun moves failed (Some true) level told h in
    made-uses s.tables.srq_state conn t a.channels (port_of s.tables conn a.call (legal-sound abort_port history s legal) a.here)

pub links_given_once-law : LinksGivenOnceLaw
links_given_once-law abort_port history s h =
    (given-along (λ s. s.tables.links.next) (λ e o. link_given e) (λ o es. links_given es) (λ s. refl) (λ s e es. refl)
    (λ e s t sound h. (entry-gives e s t h).links) history (first abort_port) s (first-sound abort_port) h).pairs

pub connections_given_once-law : ConnectionsGivenOnceLaw
connections_given_once-law abort_port history s h =
    (given-along (λ s. s.tables.next_connection) (λ e o. connection_given e) (λ o es. connections_given es) (λ s. refl) (λ s e es. refl)
    (λ e s t sound h. (entry-gives e s t h).connections) history (first abort_port) s (first-sound abort_port) h).pairs

pub channels_given_once-law : ChannelsGivenOnceLaw
channels_given_once-law abort_port history s h =
    (given-along (λ s. s.tables.srq_state.next_channel) channel_given channels_given (λ s. refl) (λ s e es. refl)
    (λ e s t sound h. (entry-gives e s t h).channels sound) history (first abort_port) s (first-sound abort_port) h).pairs
