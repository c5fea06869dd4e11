-- Why a text spells no table, and which rules it spells.
use Rattle.std.proofs.Common.{◌≡◌, ℕ, Bool, true, false, cond, List, Option, Some, None, Result, Ok, Err, IfOk, IsUtf8, refl, ap, ◌∙◌, subst}
use Rattle.std.proofs.lemmas.Bool.{cond-true}
use Rattle.std.proofs.lemmas.Str.{IsUtf8-from_is_utf8, is_utf8-from_IsUtf8}
use Rattle.std.specs.Str.{is_utf8}
use Rattle.serde_json.specs.Data.{Data}
use Rattle.serde_json.specs.Read.{read}
use Rattle.vx_table.specs.declared.TableErr.{TableErr}
use Rattle.vx_table.specs.declared.TableErr.TheVariants.{NotObject, TooMany, BadRule, NoMemory}
use Rattle.vx_table.specs.Table.{Rule, TableState, fresh_table}
use Rattle.vx_setup.specs.declared.stops.Refusal.{Refusal}
use Rattle.vx_setup.specs.Refusing.{rules_by, rules_in}

-- where memory isn't wanting, an error is the reason for which a value spells no rules
pub no-table : (rules : Result (List Rule) TableErr) (why : TableErr) → (why ≡ NoMemory → ⊥) → (why ≡ NotObject → rules ≡ Err NotObject)
    → (why ≡ TooMany → rules ≡ Err TooMany) → ((number : ℕ) → why ≡ BadRule number → rules ≡ Err (BadRule number)) → rules ≡ Err why
no-table rules NotObject memory object many bad = object refl
no-table rules TooMany memory object many bad = many refl
no-table rules (BadRule number) memory object many bad = bad number refl
no-table rules NoMemory memory object many bad = absurd (memory refl)

-- a test that doesn't hold
untaken : (test : Bool) (there : Option (Result (List Rule) TableErr)) → (test ≡ true → ⊥) → cond test there None ≡ None
untaken true there fails = absurd (fails refl)
untaken false there fails = refl

-- bytes that aren't UTF-8 spell nothing
pub not-text : (text : List ℕ) → (IsUtf8 text → ⊥) → rules_in text ≡ None
not-text text fails = untaken (is_utf8 text) (rules_by (read text)) (λ e. fails (IsUtf8-from_is_utf8 text e))

-- a text spells what is read of it
pub text-spells : (text same : List ℕ) (value : Option Data) → same ≡ text → IsUtf8 text → read same ≡ value → rules_in text ≡ rules_by value
text-spells text same value e is_text told =
    cond-true (is_utf8 text) (rules_by (read text)) None (is_utf8-from_IsUtf8 text is_text)
    ∙ ap (λ (v : Option Data). rules_by v) (subst (λ (t : List ℕ). read t ≡ value) e told)

-- an instrument has the rules that its text spells
pub made-of : (text : List ℕ) (rules : Result (List Rule) TableErr) (made : Result TableState Refusal) → rules_in text ≡ Some rules
    → IfOk made (λ inst. (x : List Rule) × (rules ≡ Ok x) × (inst ≡ fresh_table x))
    → IfOk made (λ inst. (x : List Rule) × (rules_in text ≡ Some (Ok x)) × (inst ≡ fresh_table x))
made-of text rules (Ok inst) spelled h = (h.0, spelled ∙ ap (λ (r : Result (List Rule) TableErr). Some r) h.1, h.2)
made-of text rules (Err why) spelled h = tt
