-- There are no more locks than links that hold one.
use Rattle.std.proofs.Common.{◌≡◌, ◌≢◌, suc, ◌≤◌, true, ◌==◌, List, [], ◌∷◌, map, length, sym, ◌∙◌, arith}
use Rattle.std.specs.Prelude.{nat_eq}
use Rattle.std.specs.Cmp.{nat_eq_equiv}
use Rattle.std.specs.List.{list_any, All, AllPairs}
use Rattle.std.proofs.lemmas.Bool.Decides.{Decides-eqb}
use Rattle.std.proofs.lemmas.List.{length-map}
use Rattle.std.proofs.lemmas.List.Elements.{All-cons, All-map}
use Rattle.std.proofs.lemmas.List.Kept.{AllPairs-cons}
use Rattle.std.proofs.lemmas.Map.Made.{length-le_from_is_member, IsDistinct-from_AllPairs}
use Rattle.vx_lemmas.proofs.Laws.Lists.{in_list, turned}
use Rattle.vx_rules.specs.Locks.{Lock, IsApart}
use Rattle.vx_rules.specs.LockLaws.{HasRoom}
use Rattle.vx_lemmas.proofs.Laws.Filters.{each_fails}
use Rattle.vx_rules.proofs.Laws.Apart.{other_number}

-- the numbers of the holders differ
holders_differ : (locks : List Lock) → IsApart locks → AllPairs (λ a b. a ≢ b) (map (λ k. k.link) locks)
holders_differ [] apart = λ i j d before h. absurd (omega arith)
holders_differ (k ∷ ks) apart =
    AllPairs-cons (λ a b. a ≢ b) k.link (map (λ l. l.link) ks)
    (All-map (λ b. k.link ≢ b) (λ l. l.link) ks (λ i d h. (apart 0 (suc i) d (omega arith) (omega arith)).0))
    (holders_differ ks (λ i j d before h. apart (suc i) (suc j) d (omega arith) (omega arith)))

pub has_room : HasRoom
has_room locks links lid apart held live none =
    let holders = map (λ (k : Lock). k.link) locks in
    let others : All (λ n. lid ≢ n) holders =
    All-map (λ n. lid ≢ n) (λ k. k.link) locks (λ i d h same. other_number _ lid (each_fails (λ k. k.link == lid) locks none i d h) (sym same)) in
    let among : All (λ n. list_any (nat_eq n) links ≡ true) (lid ∷ holders) =
    All-cons (λ n. list_any (nat_eq n) links ≡ true) lid holders (sym (turned lid links) ∙ live)
    (All-map (λ n. list_any (nat_eq n) links ≡ true) (λ k. k.link) locks (λ i d h. sym (turned _ links) ∙ held i d h)) in
    let few : length (lid ∷ holders) ≤ length links =
    length-le_from_is_member nat_eq_equiv (lid ∷ holders) links
    (IsDistinct-from_AllPairs Decides-eqb (lid ∷ holders) (AllPairs-cons (λ a b. a ≢ b) lid holders others (holders_differ locks apart)))
    (in_list (λ n. list_any (nat_eq n) links ≡ true) (lid ∷ holders) among) in
    let many : length holders ≡ length locks = length-map locks (λ k. k.link) in
    omega arith
