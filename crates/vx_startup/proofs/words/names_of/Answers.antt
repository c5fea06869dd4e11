use Rattle.std.proofs.Common.{◌≡◌, ◌≢◌, ◌∙◌, Bor, Err, List, None, OnErr, Option, Result, Some, [], ap, codes, map, option_map, subst, sym}
use Rattle.std.specs.Prelude.{unwrap_or}
use Rattle.std.proofs.lemmas.Result.{err_from_is_err_and}
use Rattle.clap.specs.Matches.{found_of, matched_of, raw_values}
use Rattle.clap.specs.Walk.{Text, rows_of}
use Rattle.clap.specs.declared.parser.matches.Found.{Found}
use Rattle.clap.proofs.WalkLemmas.{raw_values-rows}
use Rattle.vx_policy.specs.Names.{names_with_all}
use Rattle.vx_policy.specs.declared.names.NameRefused.{NameRefused}
use Rattle.vx_policy.specs.declared.names.NameRefused.TheVariants as why
use Rattle.vx_startup.specs.Meant.{name_texts}
use Rattle.vx_startup.proofs.words.names_of.Goals as goal
use Rattle.vx_startup.proofs.words.names_of.Goals.{in-Some+in_ok-add_texts, in_default-get_strs}

-- the texts that a getter answers with are those of `--name`
texts_are : (f : Found) (r : Option (Bor (List (Bor Text)))) → option_map (λ s. map (λ v. v.now) s.now) r ≡ option_map raw_values (matched_of f (codes "name"))
    → name_texts (rows_of f) ≡ unwrap_or (option_map (λ s. map (λ v. v.now) s.now) r) []
texts_are f r same = sym (ap (λ (o : Option (List Text)). unwrap_or o []) (same ∙ raw_values-rows f (codes "name")))

-- an error that isn't want of memory isn't that as the error of another call
other_error : {X Y : Type 0} (e : NameRefused) → ◌≢◌ {A = Result X NameRefused} (Err e) (Err why.NoMemory) → ◌≢◌ {A = Result Y NameRefused} (Err e) (Err why.NoMemory)
other_error e other is =
    let same : e ≡ why.NoMemory = cc is in
    other (ap Err same)

-- names added to none are those of the texts
all_added : (f : Found) (texts : List Text) (names : List (Text × Text)) (r : Option (List (Text × Text))) → name_texts (rows_of f) ≡ texts → names ≡ []
    → names_with_all names texts ≡ r → names_with_all [] (name_texts (rows_of f)) ≡ r
all_added f texts names r are none added = ap (names_with_all []) are ∙ ap (λ (n : List (Text × Text)). names_with_all n texts) (sym none) ∙ added

pub returns-in_err-add_texts-clause-other : goal.returns-in_err-add_texts-clause-other
returns-in_err-add_texts-clause-other c =
    let found = found_of c.args.matches.now in
    let p = err_from_is_err_and c.from_residual.result c.from_residual.ensures.1 in
    let is : c.from_residual.result ≡ Err c.in_err-add_texts.field-0.0 = cc (p.1, p.2) in
    let texts = texts_are found (Some c.in-Some.texts) c.in-Some.ensures in
    subst (λ r. OnErr r (r ≢ Err why.NoMemory → names_with_all [] (name_texts (rows_of found)) ≡ None)) (sym is)
    (λ other. all_added found _ c.in-Ok.names None texts c.in-Ok.ensures (c.in_err-add_texts.ensures.other (other_error c.in_err-add_texts.field-0.0 other)))

pub returns-clause-given : goal.returns-clause-given
returns-clause-given c =
    let found = found_of c.args.matches.now in
    elim c.match-get_strs.branch [
      | in-Some+in_ok-add_texts w ↦
          all_added found _ c.in-Ok.names (Some c.match-get_strs.names) (texts_are found (Some w.in-Some.texts) w.in-Some.ensures) c.in-Ok.ensures
          (w.in_ok-add_texts.ensures.added ∙ ap Some (sym w.names-is))
      | in_default-get_strs w ↦
          all_added found [] c.in-Ok.names (Some c.match-get_strs.names) (texts_are found None w.in_default-get_strs.ensures) c.in-Ok.ensures (ap Some (sym w.names-is))
    ]
