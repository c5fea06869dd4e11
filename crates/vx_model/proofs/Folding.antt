-- What lists of transfers got, with one more behind.
use Rattle.std.proofs.Common.{◌≡◌, ◌<◌, ℕ, Bool, ◌+◌, List, [], ◌∷◌, ◌++◌, Option, Some, None, map, length, take, get_or, refl, sym, ap, ◌∙◌}
use Rattle.std.specs.List.{cons_option}
use Rattle.std.proofs.lemmas.List.{take_more, map-append}
use Rattle.std.proofs.lemmas.List.Elements.{filter_map-append}
use Rattle.vx_488.specs.declared.transfers.Transfer.{Transfer}
use Rattle.vx_488.specs.declared.wire.Wire.{Wire}
use Rattle.vx_488.specs.Wire.{step, wire_after}
use Rattle.vx_488.proofs.Laws.{wire_after-append}
use Rattle.vx_plan.specs.Transfers.{got_of}
use Rattle.vx_plan.specs.Results.{gots, bytes_got, last_got}
use Rattle.vx_plan.specs.Places.{last_after}
use Rattle.vx_model.specs.Stepping.{model_byte_of}
use Rattle.vx_plan.proofs.Laws.{last_got-behind}

-- the bytes of one transfer
one_byte : (g : Option (ℕ × Bool)) → map (λ x. x.0) (cons_option g []) ≡ model_byte_of g
one_byte None = refl
one_byte (Some g) = refl

-- the bytes of a list with one transfer more behind
pub bytes_got-behind : (ts : List Transfer) (t : Transfer) → bytes_got (ts ++ t ∷ []) ≡ bytes_got ts ++ model_byte_of (got_of t)
bytes_got-behind ts t =
    ap (map (λ x. x.0)) (filter_map-append got_of ts (t ∷ [])) ∙ map-append (λ x. x.0) (gots ts) (gots (t ∷ [])) ∙ ap (λ xs. bytes_got ts ++ xs) (one_byte (got_of t))

-- the bytes of a front that is one longer
pub bytes_got-more : (ts : List Transfer) (i : ℕ) (d : Transfer) (got : List ℕ) (g : Option (ℕ × Bool)) → i < length ts → got ≡ bytes_got (take i ts) → got_of (get_or ts i d) ≡ g
    → got ++ model_byte_of g ≡ bytes_got (take (i + 1) ts)
bytes_got-more ts i d got g inside so_far is =
    ap (λ xs. xs ++ model_byte_of g) so_far ∙ ap (λ h. bytes_got (take i ts) ++ model_byte_of h) (sym is)
    ∙ sym (bytes_got-behind (take i ts) (get_or ts i d)) ∙ ap bytes_got (sym (take_more ts i d inside))

-- the last byte of a front that is one longer
pub last_got-more : (ts : List Transfer) (i : ℕ) (d : Transfer) (last : Option (ℕ × Bool)) → i < length ts → last ≡ last_got (take i ts)
    → last_after last (got_of (get_or ts i d)) ≡ last_got (take (i + 1) ts)
last_got-more ts i d last inside so_far =
    ap (λ l. last_after l (got_of (get_or ts i d))) so_far ∙ sym (last_got-behind (take i ts) (get_or ts i d)) ∙ ap last_got (sym (take_more ts i d inside))

-- the bus after a front that is one longer
pub wire_after-more : (before : Wire) (ts : List Transfer) (i : ℕ) (d : Transfer) (now : Wire) → i < length ts → now ≡ wire_after before (take i ts)
    → step now (get_or ts i d) ≡ wire_after before (take (i + 1) ts)
wire_after-more before ts i d now inside so_far =
    ap (λ w. step w (get_or ts i d)) so_far ∙ sym (wire_after-append before (take i ts) (get_or ts i d ∷ [])) ∙ ap (wire_after before) (sym (take_more ts i d inside))
