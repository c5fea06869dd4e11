-- How the bytes of a reply are put behind those that wait.
use Rattle.std.proofs.Common.{◌≡◌, ◌≤◌, ◌+◌, ℕ, true, List, [], ◌∷◌, ◌++◌, length, leb, sym, ap, ◌∙◌, refl, append_assoc}
use Rattle.std.specs.Prelude.{map}
use Rattle.std.proofs.lemmas.List.{map-append}
use Rattle.std.proofs.lemmas.Bool.{cond-true}
use borrow.Author.Tests.{le-leb}
use Rattle.vx_488.specs.Heard.{Byte}
use Rattle.vx_inst.specs.declared.TheConstants.{INST_MAX}
use Rattle.vx_inst.specs.declared.body.Marked.{Marked}
use Rattle.vx_inst.specs.Marks.{shown}
use Rattle.vx_inst.specs.Reply.{marked, unmarked, ended, reply_appended}

-- A reply's bytes are those of its front without END, and the last with END.
pub ended-push : (front : List ℕ) (last : ℕ) → ended (front ++ last ∷ []) ≡ map unmarked front ++ marked last ∷ []
ended-push [] last = refl
ended-push (b ∷ []) last = refl
ended-push (b ∷ c ∷ bs) last = ap (λ (bytes : List Byte). unmarked b ∷ bytes) (ended-push (c ∷ bs) last)

-- What waits behind a front that was put without END and a last byte that was put with it, is the reply appended.
pub shown-appended : (old mid new : List Marked) (front reply : List ℕ) (last : ℕ)
    → new ≡ mid ++ (record { byte = last; end = true }) ∷ []
    → map shown mid ≡ map shown old ++ map unmarked front
    → reply ≡ front ++ last ∷ []
    → length (map shown old) + length reply ≤ INST_MAX
    → map shown new ≡ reply_appended (map shown old) reply
shown-appended old mid new front reply last pushed put whole fits =
    ap (map shown) pushed
    ∙ map-append shown mid _
    ∙ ap (λ (bytes : List Byte). bytes ++ marked last ∷ []) put
    ∙ append_assoc (map shown old) (map unmarked front) (marked last ∷ [])
    ∙ ap (λ (bytes : List Byte). map shown old ++ bytes) (sym (ended-push front last))
    ∙ ap (λ (bytes : List ℕ). map shown old ++ ended bytes) (sym whole)
    ∙ sym (cond-true (leb (length (map shown old) + length reply) INST_MAX) _ _ (le-leb _ _ fits))
