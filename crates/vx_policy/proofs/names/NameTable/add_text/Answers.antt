use Rattle.std.proofs.Common.{◌≡◌, ◌≢◌, ◌≤◌, ℕ, true, false, [], ◌∷◌, ◌++◌, Ok, Err, None, Some, OnErr, List, Result, length, refl, sym, ap, ◌∙◌}
use Rattle.std.specs.Prelude.{if◌then◌else◌, option_and_then, ◌&&◌, not, nat_lt}
use Rattle.std.proofs.lemmas.Bool.{le-ltb}
use Rattle.vx_policy.specs.Cutting.{cut}
use Rattle.vx_policy.specs.Names.{are_short, has_name, is_free, equals, names_with}
use Rattle.vx_policy.specs.declared.names.NameRefused.{NameRefused}
use Rattle.vx_policy.specs.declared.names.NameRefused.TheVariants as why
use Rattle.vx_policy.specs.declared.names.TheConstants.{NAMES_MAX}
use Rattle.vx_policy.proofs.names.NameTable.add_text.Goals as goal

-- a text that was cut so adds no name that may not be added
none-with : (names : List (List ℕ × List ℕ)) (text name device : List ℕ) → cut equals text ≡ Some (name, device) → is_free names name device ≡ false → names_with names text ≡ None
none-with names text name device is refused =
    ap (option_and_then (λ row. if is_free names row.0 row.1 then Some (names ++ row ∷ []) else None)) is
    ∙ ap (λ b. if b then Some (names ++ (name, device) ∷ []) else None) refused

-- why one may not be added
long-refused : (names : List (List ℕ × List ℕ)) (name device : List ℕ) → are_short name device ≡ false → is_free names name device ≡ false
long-refused names name device long = ap (λ b. b && (not (has_name names name) && nat_lt (length names) NAMES_MAX)) long

known-refused : (names : List (List ℕ × List ℕ)) (name device : List ℕ) → are_short name device ≡ true → has_name names name ≡ true → is_free names name device ≡ false
known-refused names name device short known =
    ap (λ b. b && (not (has_name names name) && nat_lt (length names) NAMES_MAX)) short ∙ ap (λ b. not b && nat_lt (length names) NAMES_MAX) known

many-refused : (names : List (List ℕ × List ℕ)) (name device : List ℕ) → are_short name device ≡ true → has_name names name ≡ false → NAMES_MAX ≤ length names → is_free names name device ≡ false
many-refused names name device short new many =
    ap (λ b. b && (not (has_name names name) && nat_lt (length names) NAMES_MAX)) short ∙ ap (λ b. not b && nat_lt (length names) NAMES_MAX) new
    ∙ le-ltb (length names) NAMES_MAX many

pub returns-in-Some-clause-other : goal.returns-in-Some-clause-other
returns-in-Some-clause-other c =
    by c.add.result refl
  where
    by : (r : Result Unit NameRefused) → c.add.result ≡ r → OnErr r (r ≢ Err why.NoMemory → names_with c.args.self.now c.args.text.now ≡ None)
    by (Ok x) e = tt
    by (Err why.Form) e = λ other. absurd (c.add.ensures.formed e)
    by (Err why.TooLong) e = λ other. none-with c.args.self.now c.args.text.now c.in-Some.name.now c.in-Some.device.now (sym c.in-Some.ensures)
        (long-refused c.args.self.now c.in-Some.name.now c.in-Some.device.now (c.add.ensures.as_said.0.0 e))
    by (Err why.Known) e = λ other. none-with c.args.self.now c.args.text.now c.in-Some.name.now c.in-Some.device.now (sym c.in-Some.ensures)
        (known-refused c.args.self.now c.in-Some.name.now c.in-Some.device.now (c.add.ensures.as_said.1.0 e).0 (c.add.ensures.as_said.1.0 e).1)
    by (Err why.TooMany) e = λ other. none-with c.args.self.now c.args.text.now c.in-Some.name.now c.in-Some.device.now (sym c.in-Some.ensures)
        (many-refused c.args.self.now c.in-Some.name.now c.in-Some.device.now (c.add.ensures.as_said.2.0 e).0 (c.add.ensures.as_said.2.0 e).1 (c.add.ensures.as_said.2.0 e).2)
    by (Err why.NoMemory) e = λ other. absurd (other refl)
