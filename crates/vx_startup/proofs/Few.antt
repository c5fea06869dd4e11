-- A command without subcommands fails by one kind at most.
use Rattle.std.proofs.Common.{◌≡◌, ◌≤◌, ℕ, Bool, cond, zero, suc, true, false, refl, ap, sym, arith, List, [], ◌∷◌, length, Option, Some, None, inl, inr}
use Rattle.std.specs.Prelude.{slice_get, drop, encode_utf8, min, ◌+◌}
use Rattle.std.specs.Option.{option_map_or}
use Rattle.std.specs.Str.{chars}
use Rattle.clap.specs.Lexer.{long_of, short_of}
use Rattle.clap.specs.Facts.{parser_of_value, unwrap_or_range}
use Rattle.clap.specs.Matches.{count_text}
use Rattle.clap.specs.Kinds.{Kinds, IsAmong, check_kinds, or_else, range_kinds, request_kinds, value_kinds, values_kinds}
use Rattle.clap.specs.Walk.{Held, Row, Rule, Step, next, trailing, subcommand, value, Text, Waiting, idle, option, positional, Walk, action_of, arg_by_id, arg_by_index, arg_by_long, arg_by_short, attached_value, count_of, most_values, nothing_held, settled, subcommand_met, values_or_missing, walk, walk_from, walked, with_default, word_met}
use Rattle.clap.specs.Simple.{Shape, built}
use Rattle.clap.specs.Faults.{count_fault, set_fault, action_fault, use_fault, settle_fault, react_fault, option_fault, long_fault, short_fault, bundle_step_fault, flags_fault, flag_word_fault, other_fault, word_fault, positional_fault, stray_fault, step_fault, turn_fault, walk_fault, default_fault, defaults_fault, level_fault, entered_fault, built_fault, fault_of}
use Rattle.clap.specs.declared.builder.action.ArgAction.{ArgAction}
use Rattle.clap.specs.declared.builder.action.ArgAction.TheVariants as action
use Rattle.clap.specs.declared.builder.value_parser.ValueParser.{ValueParser}
use Rattle.clap.specs.declared.error.kind.ErrorKind.{ErrorKind}
use Rattle.vx_startup.specs.Form.{vxgate}

-- one kind at most
record Few (ks : Kinds) : Type 0 where
  size : length ks ≤ 1

-- ---- parts of a list of kinds

few_none : Few []
few_none = record { size = omega arith }

few_one : (k : ErrorKind) → Few (k ∷ [])
few_one k = record { size = omega arith }

few_else : (a b : Kinds) → Few a → Few b → Few (or_else a b)
few_else [] b few more = more
few_else (k ∷ ks) b few more = few

few_if : (b : Bool) (x y : Kinds) → Few x → Few y → Few (cond b x y)
few_if true x y left right = left
few_if false x y left right = right

few_option : {X : Type 0} (f : X → Kinds) (o : Option X) → ((x : X) → Few (f x)) → Few (option_map_or f o [])
few_option f None each = few_none
few_option f (Some x) each = each x

-- ---- one use of an argument

few_value : (i : Bool) (p : ValueParser) (t : List ℕ) → Few (value_kinds i p t)
few_value i p t = few_if _ _ _ few_none (few_one _)

few_values : (i : Bool) (p : ValueParser) (ts : List (List ℕ)) → Few (values_kinds i p ts)
few_values i p [] = few_none
few_values i p (t ∷ ts) = few_else _ _ (few_value i p t) (few_values i p ts)

few_range : (least most n : ℕ) → Few (range_kinds least most n)
few_range least most n = search (few_if, few_one, few_none) depth 12

few_set : (again : Bool) (a : Rule) (values : List Text) (rows : List Row) → Few (set_fault again a values rows)
few_set again a values rows = few_else _ _ (few_if _ _ _ (few_one _) few_none) (few_values _ _ values)

few_count : (a : Rule) (values : List Text) (rows : List Row) → Few (count_fault a values rows)
few_count a [] rows = few_value a.ignore_case (parser_of_value a.parser) (count_text (min (count_of a.id rows + 1) 255))
few_count a (v ∷ vs) rows = few_values _ _ (v ∷ vs)

few_action : (x : ArgAction) (again : Bool) (a : Rule) (values : List Text) (rows : List Row) → Few (action_fault x again a values rows)
few_action action.Set again a values rows = few_set again a values rows
few_action action.SetTrue again a values rows = few_set again a values rows
few_action action.SetFalse again a values rows = few_set again a values rows
few_action action.Append again a values rows = few_values _ _ values
few_action action.Count again a values rows = few_count a values rows
few_action action.Help again a values rows = few_one _
few_action action.HelpShort again a values rows = few_one _
few_action action.HelpLong again a values rows = few_one _
few_action action.Version again a values rows = few_one _

few_use : (again : Bool) (a : Rule) (values : List Text) (rows : List Row) → Few (use_fault again a values rows)
few_use again a values rows =
    few_else _ _ (few_range (unwrap_or_range a.range).start_inclusive (most_values a) (length values))
    (few_action (action_of a) again a (values_or_missing a values) rows)

-- ---- one word

few_settle : (c : List Rule) (again : Bool) (h : Held) → Few (settle_fault c again h)
few_settle c again h = few_option _ h.pending (λ p. few_option _ (arg_by_id c p.0) (λ a. few_use again a p.1 h.rows))

few_react : (c : List Rule) (again : Bool) (a : Rule) (values : List Text) (h : Held) → Few (react_fault c again a values h)
few_react c again a values h = few_else _ _ (few_settle c again h) (few_use again a values (settled c h).rows)

few_valued : (c : List Rule) (again : Bool) (a : Rule) (v : Option Text) (h : Held) → Few (option_fault c again a v h)
few_valued c again a (Some v) h = few_react c again a (v ∷ []) h
few_valued c again a None h = few_settle c again h

few_long : (c : List Rule) (again : Bool) (a : Option Rule) (v : Option Text) (h : Held) → Few (long_fault c again a v h)
few_long c again None v h = few_one _
few_long c again (Some a) v h = few_if _ _ _ (few_valued c again a v h) (few_if _ _ _ (few_one _) (few_react c again a [] h))

few_short : (c : List Rule) (again : Bool) (a : Option Rule) (rest : Text) (h : Held) (more : Held → Kinds) → ((g : Held) → Few (more g))
    → Few (short_fault c again a rest h more)
few_short c again None rest h more each = few_one _
few_short c again (Some a) rest h more each =
    few_if _ _ _ (few_valued c again a (attached_value rest) h) (few_else _ _ (few_react c again a [] h) (each _))

few_step_of_bundle : (c : List Rule) (again : Bool) (x : Option ℕ) (flags : Text) (skip : ℕ) (h : Held) (more : Text → ℕ → Held → Kinds)
    → ((t : Text) (n : ℕ) (g : Held) → Few (more t n g)) → Few (bundle_step_fault c again x flags skip h more)
few_step_of_bundle c again None flags skip h more each = few_none
few_step_of_bundle c again (Some x) flags zero h more each =
    few_short c again (arg_by_short c x) (drop (length (encode_utf8 x)) flags) h _ (λ g. each _ _ g)
few_step_of_bundle c again (Some x) flags (suc skip) h more each = each _ _ _

few_flags : (c : List Rule) (again : Bool) (k : ℕ) (flags : Text) (skip : ℕ) (h : Held) → Few (flags_fault c again k flags skip h)
unfolding flags_fault
few_flags c again zero flags skip h = few_none
few_flags c again (suc k) flags skip h =
    few_step_of_bundle c again (slice_get (chars flags) 0) flags skip h (flags_fault c again k) (λ t n g. few_flags c again k t n g)

few_flag_word : (c : List Rule) (again : Bool) (p : Option (Text × Option Text)) (word : Text) (h : Held) → Few (flag_word_fault c again p word h)
few_flag_word c again (Some p) word h = few_long c again (arg_by_long c p.0) p.1 h
few_flag_word c again None word h = few_option _ (short_of word) (λ flags. few_flags c again (length flags) flags h.skip (record h { skip = 0 }))

few_plain : (s : Shape) (word : Text) (h : Held) → Few (other_fault s None word h)
few_plain s word h = few_if _ _ _ few_none (few_flag_word s.rules s.args_override_self (long_of word) word h)

few_other : (s : Shape) (waiting : Waiting) (word : Text) (h : Held) → Few (other_fault s (subcommand_met [] waiting word) word h)
few_other s idle word h = few_plain s word h
few_other s (option id) word h = few_plain s word h
few_other s positional word h = few_plain s word h

few_word : (s : Shape) (is_trailing : Bool) (waiting : Waiting) (word : Text) (h : Held) → Few (word_fault s [] is_trailing waiting word h)
few_word s is_trailing waiting word h = few_if _ _ _ few_none (few_other s waiting word h)

few_positional : (c : List Rule) (again : Bool) (a : Rule) (h : Held) → Few (positional_fault c again a h)
few_positional c again a h = few_if _ _ _ few_none (few_settle c again h)

few_stray : (s : Shape) → s.is_leaf ≡ true → Few (stray_fault s)
few_stray s leaf = rw leaf (few_one _)

few_step : (s : Shape) (position : ℕ) (h : Held) (step : Step) → s.is_leaf ≡ true → Few (step_fault s position h step)
few_step s position h (next waiting) leaf = few_none
few_step s position h (trailing at) leaf = few_none
few_step s position h (subcommand name) leaf = few_none
few_step s position h value leaf = go (arg_by_index s.rules position)
  where
    go : (o : Option Rule) → Few (option_map_or (λ a. positional_fault s.rules s.args_override_self a h) o (stray_fault s))
    go None = few_stray s leaf
    go (Some a) = few_positional s.rules s.args_override_self a h

few_turn : (s : Shape) (w : Walk) (word : Text) → s.is_leaf ≡ true → Few (turn_fault s [] w word)
few_turn s w word leaf =
    let met = word_met s.rules [] w.is_trailing w.waiting w.position word w.held in
    few_if _ _ _ few_none (few_else _ _ (few_word s w.is_trailing w.waiting word w.held) (few_step s w.position met.0 met.1 leaf))

few_walk : (s : Shape) (w : Walk) (words : List Text) → s.is_leaf ≡ true → Few (walk_fault s [] w words)
unfolding walk_fault
few_walk s w [] leaf = few_none
few_walk s w (word ∷ rest) leaf = few_else _ _ (few_turn s w word leaf) (few_walk s (walked s.rules [] w word) rest leaf)

-- ---- after the walk

few_requests : (x : ArgAction) → Few (request_kinds x)
few_requests action.Set = few_none
few_requests action.SetTrue = few_none
few_requests action.SetFalse = few_none
few_requests action.Append = few_none
few_requests action.Count = few_none
few_requests action.Help = few_one _
few_requests action.HelpShort = few_one _
few_requests action.HelpLong = few_one _
few_requests action.Version = few_one _

few_default : (rows : List Row) (a : Rule) → Few (default_fault rows a)
few_default rows a = few_if _ _ _ few_none (few_else _ _ (few_requests (action_of a)) (few_values _ _ a.defaults))

few_defaults : (rows : List Row) (rules : List Rule) → Few (defaults_fault rows rules)
unfolding defaults_fault
few_defaults rows [] = few_none
few_defaults rows (a ∷ rest) = few_else _ _ (few_default rows a) (few_defaults (with_default rows a) rest)

few_checks : (help command argument : Bool) → Few (check_kinds help command argument)
few_checks help command argument = search (few_if, few_one, few_none) depth 12

few_level : (s : Shape) (h : Held) (words : List Text) (has : Bool) (below : Kinds) → s.is_leaf ≡ true → Few below → Few (level_fault s [] h words has below)
few_level s h words has below leaf few =
    let end = (walk s.rules [] h words).held in
    few_else _ _ (few_walk s (walk_from h) words leaf)
    (few_else _ _ few (few_else _ _ (few_settle s.rules s.args_override_self end)
    (few_else _ _ (few_defaults _ s.rules) (few_checks _ _ _))))

few_entered : (top : Shape) (stop : Option (Text × List Text)) → Few (entered_fault (record { top = top; subs = [] }) stop)
few_entered top stop = few_option _ stop (λ p. few_none)

few_built : (top : Shape) (words : List Text) → top.is_leaf ≡ true → Few (built_fault (record { top = top; subs = [] }) nothing_held words)
few_built top words leaf = few_level top nothing_held words _ _ leaf (few_entered top _)

-- of the one kind that there is
sole : (ks : Kinds) (k : ErrorKind) → Few ks → IsAmong k ks → ks ≡ k ∷ []
sole [] k few among = absurd among
sole (x ∷ []) k few (inl e) = ap (λ y. y ∷ []) (sym e)
sole (x ∷ []) k few (inr e) = absurd e
sole (x ∷ y ∷ rest) k few among =
    let size = few.size in
    absurd (omega arith)

-- a kind by which the command fails on words is the only one
pub only_kind : (words : List Text) (k : ErrorKind) → IsAmong k (fault_of vxgate words) → fault_of vxgate words ≡ k ∷ []
only_kind words k among = sole (fault_of vxgate words) k (few_built (built vxgate).top words refl) among
