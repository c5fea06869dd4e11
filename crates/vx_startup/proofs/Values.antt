-- What a parse that succeeds leaves of each option: a value that its parser took.
use Rattle.std.proofs.Common.{◌≡◌, ◌∙◌, ◌<◌, ◌≤◌, codes, ℕ, Bool, cond, zero, suc, true, false, refl, sym, ap, subst, arith, List, [], ◌∷◌, length, map, get_or, is_some, Option, Some, None, inl, inr}
use Rattle.std.specs.Prelude.{find, option_map, ◌&&◌}
use Rattle.std.specs.List.{All}
use Rattle.std.specs.Borrow.{Bor}
use Rattle.std.specs.Str.{bytes_eq}
use Rattle.std.proofs.lemmas.List.{get_or-map, length-map}
use Rattle.std.proofs.lemmas.List.Elements.{All-head}
use Rattle.std.proofs.lemmas.Slice.Eq.{bytes_eq-Decides}
use Rattle.clap.specs.Texts.{items_of}
use Rattle.clap.specs.Values.{Accepts, IsUnsignedIn, reading_of}
use Rattle.clap.specs.Facts.{Entry, EntryPasses, HasIn, AllowsNone, HasReading, IsCountArg, IsKnownGroup, IsParsed, MayBeEmpty, PassesArg, args_of, least_values, parser_of, parser_of_value, unwrap_or_range}
use Rattle.clap.specs.Built.{IsAuto, IsParsedFrom, IsPlain, IsPlainArg, SameRules}
use Rattle.clap.specs.Matches.{found_of, has_subcommand, matched_of}
use Rattle.clap.specs.Walk.{Rule, Text, is_empty, rule_of}
use Rattle.clap.specs.Simple.{App, app_of}
use Rattle.clap.specs.declared.builder.action.ArgAction.TheVariants.{Count, Set}
use Rattle.clap.specs.declared.builder.arg.Arg.{Arg}
use Rattle.clap.specs.declared.builder.command.Command.{Command}
use Rattle.clap.specs.declared.builder.range.ValueRange.{ValueRange}
use Rattle.clap.specs.declared.builder.value_parser.ValueParser.{ValueParser}
use Rattle.clap.specs.declared.builder.value_parser.ValueParser.TheVariants.{Bool as BoolParser, Unsigned}
use Rattle.clap.specs.declared.builder.value_parser.Reading.{Reading}
use Rattle.clap.specs.declared.builder.value_parser.Reading.TheVariants.{AsWritten}
use Rattle.clap.specs.declared.parser.matches.ArgMatches.{ArgMatches}
use Rattle.clap.specs.declared.parser.matches.Found.{Found}
use Rattle.clap.specs.declared.parser.matches.MatchedArg.{MatchedArg}
use Rattle.clap.proofs.CallerLemmas.{default_present, entry_by_id, same_rules_by_id}
use Rattle.clap.proofs.SimpleLemmas.{HasPlainFields, is_false, is_nil, plain_fields}
use Rattle.clap.proofs.TakesLemmas.{each_rule}
use Rattle.clap.proofs.WalkLemmas.{both}
use Rattle.vx_startup.specs.Form.{flag, number_option, options, vxgate}
use Rattle.vx_startup.specs.Parts.{HasFlag, HasNumber, IsGiven}

-- ---- what the rule of an argument tells of it

record IsNumberOption (name : Text) (least most : ℕ) (a : Arg) : Type 0 where
  id : a.id.now ≡ name
  action : a.action ≡ Some Set
  least_values : 1 ≤ least_values a
  parser : a.value_parser ≡ Some (Unsigned least most)
  delimiter : is_some a.val_delim ≡ false
  default_ifs : a.default_vals_ifs.items ≡ []
  defaults : 0 < length (items_of a.default_vals)

some_of : {X : Type 0} (xs : List X) → length xs ≡ 1 → 0 < length xs
some_of xs e = omega arith

-- the rule of an option gives these facts of its argument
option_facts : (name usual : Text) (least most : ℕ) (a : Arg) → rule_of a ≡ number_option name usual least most → IsNumberOption name least most a
option_facts name usual least most a same =
    let simple = ap (λ (r : Rule). r.is_simple) same in
    let p = both _ _ simple in
    let q = both _ _ p.1 in
    let r = both _ _ q.1 in
    let s = both _ _ r.1 in
    let range : a.num_vals ≡ None = ap (λ (r : Rule). r.range) same in
    let texts_are : length (map (λ (t : Bor Text). t.now) (items_of a.default_vals)) ≡ 1 = ap (λ (r : Rule). length r.defaults) same in
    let size : length (map (λ (t : Bor Text). t.now) (items_of a.default_vals)) ≡ length (items_of a.default_vals) = length-map (items_of a.default_vals) (λ (t : Bor Text). t.now) in
    record {
      id = ap (λ (r : Rule). r.id) same;
      action = ap (λ (r : Rule). r.action) same;
      least_values = subst (λ (n : Option ValueRange). 1 ≤ (unwrap_or_range n).start_inclusive) (sym range) (omega arith);
      parser = ap (λ (r : Rule). r.parser) same;
      delimiter = is_false _ s.0;
      default_ifs = is_nil _ q.0;
      defaults = some_of _ (sym size ∙ texts_are);
    }

-- an argument without a rule on another excludes nothing
plain_arg : (a : Arg) → ((rule_of a).is_simple && (rule_of a).is_free) ≡ true → IsPlainArg a
plain_arg a e =
    let kinds = both _ _ e in
    let p = both _ _ kinds.0 in
    let q = both _ _ p.1 in
    let r = both _ _ q.1 in
    let s = both _ _ kinds.1 in
    let t = both _ _ s.1 in
    (is_false _ s.0, is_nil _ t.0, is_nil _ p.0, is_nil _ r.0)

-- the place of the first rule of this name
place : List Rule → Text → ℕ
place [] name = 0
place (r ∷ rest) name = cond (bytes_eq r.id name) 0 (suc (place rest name))

-- the name of the option at a place is first found there
at_place : (k : ℕ) (x : Rule) → k < 14 → place options (get_or options k x).id ≡ k
unfolding place
at_place zero x lt = refl
at_place (suc zero) x lt = refl
at_place (suc (suc zero)) x lt = refl
at_place (suc (suc (suc zero))) x lt = refl
at_place (suc (suc (suc (suc zero)))) x lt = refl
at_place (suc (suc (suc (suc (suc zero))))) x lt = refl
at_place (suc (suc (suc (suc (suc (suc zero)))))) x lt = refl
at_place (suc (suc (suc (suc (suc (suc (suc zero))))))) x lt = refl
at_place (suc (suc (suc (suc (suc (suc (suc (suc zero)))))))) x lt = refl
at_place (suc (suc (suc (suc (suc (suc (suc (suc (suc zero))))))))) x lt = refl
at_place (suc (suc (suc (suc (suc (suc (suc (suc (suc (suc zero)))))))))) x lt = refl
at_place (suc (suc (suc (suc (suc (suc (suc (suc (suc (suc (suc zero))))))))))) x lt = refl
at_place (suc (suc (suc (suc (suc (suc (suc (suc (suc (suc (suc (suc zero)))))))))))) x lt = refl
at_place (suc (suc (suc (suc (suc (suc (suc (suc (suc (suc (suc (suc (suc zero))))))))))))) x lt = refl
at_place (suc (suc (suc (suc (suc (suc (suc (suc (suc (suc (suc (suc (suc (suc k)))))))))))))) x lt = absurd (omega arith)

-- no two options have one name
distinct : (j k : ℕ) (x y : Rule) → j < 14 → k < 14
    → bytes_eq (get_or options j x).id (get_or options k y).id ≡ true → j ≡ k
distinct j k x y low high e = sym (at_place j x low) ∙ ap (place options) ((bytes_eq-Decides _ _).0 e) ∙ at_place k y high

-- the name isn't that of an option that `clap` adds
record IsOwn (name : Text) : Type 0 where
  some : is_empty name ≡ false
  help : bytes_eq name (codes "help") ≡ false
  version : bytes_eq name (codes "version") ≡ false

named : (name : Text) → IsOwn name → name ≡ [] → ⊥
named name own none =
    let bad : is_empty name ≡ true = rw none refl in
    let good = own.some in
    cc

not_auto : (name : Text) (a : Arg) → IsOwn name → a.id.now ≡ name → IsAuto a → ⊥
not_auto name a own is (inl e) =
    let bad : bytes_eq name (codes "help") ≡ true = (bytes_eq-Decides _ _).1 (sym is ∙ e) in
    let good = own.help in
    cc
not_auto name a own is (inr e) =
    let bad : bytes_eq name (codes "version") ≡ true = (bytes_eq-Decides _ _).1 (sym is ∙ e) in
    let good = own.version in
    cc

-- ---- entries

-- where an entry has an id, the id is found
has_entry : (xs : List Entry) (id : Text) (i : ℕ) → i < length xs → ((d : Entry) → bytes_eq (get_or xs i d).0.now id ≡ true)
    → is_some (option_map (λ e. e.1) (find (λ e. bytes_eq e.0.now id) xs)) ≡ true
has_entry [] id i lt at = absurd (omega arith)
has_entry (x ∷ xs) id zero lt at = rw (at x) refl
has_entry (x ∷ xs) id (suc i) lt at = go (bytes_eq x.0.now id) refl (has_entry xs id i (omega arith) at)
  where
    go : (b : Bool) → bytes_eq x.0.now id ≡ b → is_some (option_map (λ e. e.1) (find (λ e. bytes_eq e.0.now id) xs)) ≡ true
        → is_some (option_map (λ e. e.1) (find (λ e. bytes_eq e.0.now id) (x ∷ xs))) ≡ true
    go true e rest = rw e refl
    go false e rest = rw e rest

-- the value that an entry has
number_at : (f : Found) (name : Text) (least most : ℕ) (x : MatchedArg) → matched_of f name ≡ Some x → x.reading ≡ AsWritten
    → 0 < length x.vals.items → All (λ v. IsUnsignedIn least most v.now) x.vals.items → HasNumber f name least most
number_at f name least most x found reading some passed = go x.vals.items refl some passed
  where
    go : (vs : List (Bor Text)) → x.vals.items ≡ vs → 0 < length vs → All (λ v. IsUnsignedIn least most v.now) vs → HasNumber f name least most
    go [] e lt all = absurd (omega arith)
    go (v ∷ vs) e lt all = (
      v.now,
      rw (found, e) refl,
      rw (found, e, reading) refl,
      All-head (λ (w : Bor Text). IsUnsignedIn least most w.now) v vs all,
    )

-- a flag has at most a value that passed
flag_at : (f : Found) (name : Text) (x : MatchedArg) → matched_of f name ≡ Some x → x.reading ≡ AsWritten
    → All (λ v. Accepts false BoolParser v.now) x.vals.items → HasFlag f name
flag_at f name x found reading passed = go x.vals.items refl passed
  where
    go : (vs : List (Bor Text)) → x.vals.items ≡ vs → All (λ v. Accepts false BoolParser v.now) vs → HasFlag f name
    go [] e all = inl (rw (found, e) refl, rw (found, e) refl)
    go (v ∷ vs) e all = inr (
      v.now,
      rw (found, e) refl,
      rw (found, e, reading) refl,
      All-head (λ (w : Bor Text). Accepts false BoolParser w.now) v vs all,
    )

head_of : (xs : List Arg) → 0 < length xs → Arg
head_of [] lt = absurd (omega arith)
head_of (x ∷ xs) lt = x

-- ---- the command after a parse

module _ (old : Command) (same : app_of old ≡ vxgate) (m : ArgMatches) (p : IsParsedFrom old m) where
  rules_are : map rule_of (args_of old) ≡ options
  rules_are = ap (λ (a : App). a.top.rules) same

  count : length (args_of old) ≡ 14
  count = sym (length-map (args_of old) rule_of) ∙ ap length rules_are

  rule_at : (k : ℕ) (d : Arg) → k < 14 → rule_of (get_or (args_of old) k d) ≡ get_or options k (rule_of d)
  rule_at k d lt =
      sym (get_or-map rule_of (args_of old) k d (rule_of d) (rw count lt)) ∙ ap (λ l. get_or l k (rule_of d)) rules_are

  fields : HasPlainFields old
  fields = plain_fields old (ap (λ (a : App). a.top.is_plain) same)

  plain : IsPlain old
  plain = (
    (λ k d lt. plain_arg (get_or (args_of old) k d)
        (each_rule (λ (r : Rule). r.is_simple && r.is_free) (args_of old) (rw rules_are refl) k d lt)),
    fields.groups,
  )

  -- no two arguments have one id
  only : (k : ℕ) (d : Arg) → k < 14 → (j : ℕ) (e : Arg) → j < length (args_of old)
      → bytes_eq (get_or (args_of old) j e).id.now (get_or (args_of old) k d).id.now ≡ true → j ≡ k
  only k d lt j e low ids =
      let below : j < 14 = rw count at low in
      distinct j k (rule_of e) (rule_of d) below lt
      (rw (← ap (λ (r : Rule). r.id) (rule_at j e below), ← ap (λ (r : Rule). r.id) (rule_at k d lt)) ids)

  parsed : IsParsed p.built (found_of m) (has_subcommand m)
  parsed = p.parsed (p.from.globals ∙ fields.globals)

  -- what the parse left of the option at place k, whose values this parser takes
  module _ (k : ℕ) (d : Arg) (name : Text) (q : ValueParser) (lt : k < 14) (id : (get_or (args_of old) k d).id.now ≡ name)
      (parser : (get_or (args_of old) k d).value_parser ≡ Some q) (own : IsOwn name) where
    in_args : k < length (args_of old)
    in_args = rw count lt

    -- an argument of its name is the option, as built
    as_built : (j : ℕ) (x : Arg) → j < length (args_of p.built) → get_or (args_of p.built) j x ≡ x → bytes_eq x.id.now name ≡ true
        → SameRules (get_or (args_of old) k d) x
    as_built j x high at ids = same_rules_by_id old m p k d in_args (only k d lt) (not_auto name (get_or (args_of old) k d) own id) j x high at (rw id ids)

    parser_is : (x : Arg) → SameRules (get_or (args_of old) k d) x → parser_of x ≡ q
    parser_is x s = ap parser_of_value (s.parser q parser)

    -- what passes under its name passes its parser
    passes : (P : Text → Type 0) → ((ignore_case : Bool) (t : Text) → Accepts ignore_case q t → P t)
        → (v : Bor Text) → PassesArg p.built name v.now → P v.now
    passes P accepted v any =
        let s = as_built any.0 any.1 any.2 any.3 any.4.0 in
        accepted any.1.ignore_case v.now (subst (λ (r : ValueParser). Accepts any.1.ignore_case r v.now) (parser_is any.1 s) any.4.1)

    -- and is read as its parser says
    reads : (r : Reading) → HasReading p.built name r → r ≡ reading_of q
    reads r any =
        let s = as_built any.0 any.1 any.2 any.3 any.4.0 in
        sym any.4.1 ∙ ap reading_of (parser_is any.1 s)

    -- no group has its name
    no_group : IsKnownGroup p.built name → ⊥
    no_group (inl none) = named name own none
    no_group (inr some) =
        let bad : 0 < 0 = rw (p.from.plain plain).1 at some in
        absurd (omega arith)

    -- the values of an entry under its name pass, and are read so
    taken_values : (P : Text → Type 0) → ((ignore_case : Bool) (t : Text) → Accepts ignore_case q t → P t)
        → (e : Entry) → e.0.now ≡ name → EntryPasses p.built e → All (λ v. P v.now) e.1.vals.items
    taken_values P accepted e key pass = elim pass.0 [
      | inl group ↦ absurd (no_group (subst (IsKnownGroup p.built) key (pass.3 group)))
      | inr all ↦ λ i x low. passes P accepted (get_or e.1.vals.items i x) (subst (λ (w : Text). PassesArg p.built w (get_or e.1.vals.items i x).now) key (all i x low))
    ]

    read_as_it_says : (e : Entry) → e.0.now ≡ name → EntryPasses p.built e → e.1.reading ≡ reading_of q
    read_as_it_says e key pass = elim pass.4 [
      | inl group ↦ absurd (no_group (subst (IsKnownGroup p.built) key (pass.3 group)))
      | inr how ↦ reads e.1.reading (subst (λ (w : Text). HasReading p.built w e.1.reading) key how)
    ]

  -- what it left of the flag at place k
  module _ (k : ℕ) (d : Arg) (name : Text) (lt : k < 14) (is : get_or options k (rule_of d) ≡ flag name) (own : IsOwn name) where
    flag_rule : rule_of (get_or (args_of old) k d) ≡ flag name
    flag_rule = rule_at k d lt ∙ is

    flag_id : (get_or (args_of old) k d).id.now ≡ name
    flag_id = ap (λ (r : Rule). r.id) flag_rule

    flag_parser : (get_or (args_of old) k d).value_parser ≡ Some BoolParser
    flag_parser = ap (λ (r : Rule). r.parser) flag_rule

    set : HasFlag (found_of m) name
    set = go (matched_of (found_of m) name) refl
      where
        at : (x : MatchedArg) → matched_of (found_of m) name ≡ Some x
            → ((e : Entry) × (e.1 ≡ x) × (bytes_eq e.0.now name ≡ true) × EntryPasses p.built e) → HasFlag (found_of m) name
        at x found got =
            let key : got.0.0.now ≡ name = (bytes_eq-Decides _ _).0 got.2 in
            flag_at (found_of m) name x found
            (rw (← got.1) (read_as_it_says k d name BoolParser lt flag_id flag_parser own got.0 key got.3))
            (rw (← got.1) (taken_values k d name BoolParser lt flag_id flag_parser own (Accepts false BoolParser) (λ i t a. a) got.0 key got.3))

        go : (o : Option MatchedArg) → matched_of (found_of m) name ≡ o → HasFlag (found_of m) name
        go None e = inl (rw e refl, rw e refl)
        go (Some x) e = at x e (entry_by_id (EntryPasses p.built) (found_of m).entries.items name x parsed.values e)

  -- what it left of the option of a number at place k
  module _ (k : ℕ) (d : Arg) (name usual : Text) (least most : ℕ) (lt : k < 14)
      (is : get_or options k (rule_of d) ≡ number_option name usual least most) (own : IsOwn name) where
    it : IsNumberOption name least most (get_or (args_of old) k d)
    it = option_facts name usual least most (get_or (args_of old) k d) (rule_at k d lt ∙ is)

    built_as : (j : ℕ) (x : Arg) → j < length (args_of p.built) → get_or (args_of p.built) j x ≡ x → bytes_eq x.id.now name ≡ true
        → SameRules (get_or (args_of old) k d) x
    built_as = as_built k d name (Unsigned least most) lt it.id it.parser own

    groupless : IsKnownGroup p.built name → ⊥
    groupless = no_group k d name (Unsigned least most) lt it.id it.parser own

    -- an entry under its name has a value
    filled : (e : Entry) → e.0.now ≡ name → EntryPasses p.built e → 0 < length e.1.vals.items
    filled e key pass = elim pass.1 [
      | inl group ↦ absurd (groupless (subst (IsKnownGroup p.built) key group.1))
      | inr (inl some) ↦ some
      | inr (inr (inl counts)) ↦
          let any = subst (IsCountArg p.built) key counts.1 in
          let s = built_as any.0 any.1 any.2 any.3 any.4.0 in
          let bad : Set ≡ Count = rw (s.action Set it.action) at any.4.1 in
          absurd cc
      | inr (inr (inr none)) ↦
          let any = subst (AllowsNone p.built) key none in
          let s = built_as any.0 any.1 any.2 any.3 any.4.0 in
          absurd (not_empty any.1 s any.4.1)
    ]
      where
        not_empty : (x : Arg) → SameRules (get_or (args_of old) k d) x → MayBeEmpty x → ⊥
        not_empty x s (inl zero_values) =
            let least_one = s.least it.action it.least_values in
            omega arith
        not_empty x s (inr splits) =
            let bad : is_some x.val_delim ≡ false = rw s.val_delim it.delimiter in
            cc

    -- its default gives it an entry, so it has a value
    value : HasNumber (found_of m) name least most
    value = go (matched_of (found_of m) name) refl (has_entry (found_of m).entries.items name has.0 has.1 has.2)
      where
        has : HasIn (found_of m).entries.items name
        has = subst (HasIn (found_of m).entries.items) it.id
            (default_present old m p fields.globals k d (rw count lt) (it.default_ifs, it.defaults))

        at : (x : MatchedArg) → matched_of (found_of m) name ≡ Some x
            → ((e : Entry) × (e.1 ≡ x) × (bytes_eq e.0.now name ≡ true) × EntryPasses p.built e) → HasNumber (found_of m) name least most
        at x found got =
            let key : got.0.0.now ≡ name = (bytes_eq-Decides _ _).0 got.2 in
            number_at (found_of m) name least most x found
            (rw (← got.1) (read_as_it_says k d name (Unsigned least most) lt it.id it.parser own got.0 key got.3))
            (rw (← got.1) (filled got.0 key got.3))
            (rw (← got.1) (taken_values k d name (Unsigned least most) lt it.id it.parser own (IsUnsignedIn least most) (λ i t a. a) got.0 key got.3))

        go : (o : Option MatchedArg) → matched_of (found_of m) name ≡ o → is_some (matched_of (found_of m) name) ≡ true → HasNumber (found_of m) name least most
        go None e some =
            let bad : false ≡ true = rw e at some in
            absurd cc
        go (Some x) e some = at x e (entry_by_id (EntryPasses p.built) (found_of m).entries.items name x parsed.values e)

  first : Arg
  first = head_of (args_of old) (rw count (omega arith))

  own_name : (name : Text) → is_empty name ≡ false → bytes_eq name (codes "help") ≡ false → bytes_eq name (codes "version") ≡ false → IsOwn name
  own_name name some help version = record { some = some; help = help; version = version }

  -- each option has its number, and each flag its value, if it has one
  pub all_given : IsGiven (found_of m)
  all_given = record {
    core = value 0 first (codes "core") (codes "9010") 1 65535 (omega arith) refl (own_name (codes "core") refl refl refl);
    abort = value 1 first (codes "abort") (codes "9011") 1 65535 (omega arith) refl (own_name (codes "abort") refl refl refl);
    sample = value 2 first (codes "sample") (codes "10") 1 60000 (omega arith) refl (own_name (codes "sample") refl refl refl);
    workers = value 3 first (codes "workers") (codes "16") 1 64 (omega arith) refl (own_name (codes "workers") refl refl refl);
    limit = value 4 first (codes "limit") (codes "0") 0 1000000 (omega arith) refl (own_name (codes "limit") refl refl refl);
    keepalive = value 5 first (codes "keepalive") (codes "120") 0 86400 (omega arith) refl (own_name (codes "keepalive") refl refl refl);
    send_timeout = value 6 first (codes "send-timeout") (codes "60") 0 86400 (omega arith) refl (own_name (codes "send-timeout") refl refl refl);
    idle = value 7 first (codes "idle") (codes "0") 0 86400 (omega arith) refl (own_name (codes "idle") refl refl refl);
    abort_idle = value 8 first (codes "abort-idle") (codes "5") 0 86400 (omega arith) refl (own_name (codes "abort-idle") refl refl refl);
    patience = value 9 first (codes "patience") (codes "10") 1 1000 (omega arith) refl (own_name (codes "patience") refl refl refl);
    log = set 10 first (codes "log") (omega arith) refl (own_name (codes "log") refl refl refl);
    map = set 11 first (codes "map") (omega arith) refl (own_name (codes "map") refl refl refl);
  }
