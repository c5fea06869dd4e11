-- A rule is spelled in one way, and what is spelled so is read again.
use Rattle.std.proofs.Common.{◌≡◌, ◌≢◌, ◌≤◌, ℕ, Bool, true, false, List, [], ◌∷◌, ◌++◌, Option, Some, None, refl, sym, ap, ◌∙◌, arith, codes, decimal}
use Rattle.std.specs.Prelude.{not, ◌==◌, option_map, IfSome}
use Rattle.std.specs.List.{list_all}
use Rattle.std.specs.Str.{bytes_eq}
use Rattle.std.proofs.lemmas.Bool.{and_parts, and_from, false≢true, not_from_false, ne_eqb}
use Rattle.std.proofs.lemmas.Fmt.{digits_decimal, decimal_injective}
use Rattle.std.proofs.lemmas.Option.{same_Some, none-some}
use Rattle.vx_lemmas.proofs.Laws.Decimal.{own, is_digit}
use Rattle.vx_lemmas.proofs.Laws.Conditions.{same_bytes}
use Rattle.vx_lemmas.proofs.Laws.Lists.{found_passes}
use Rattle.vx_lemmas.proofs.Laws.Options.{mapped, gone_on}
use Rattle.vx_calls.specs.declared.calls.Proc.{Proc}
use Rattle.vx_calls.specs.declared.calls.Proc.TheVariants as proc
use Rattle.vx_policy.specs.declared.rules.Peers.{Peers}
use Rattle.vx_policy.specs.declared.rules.Peers.TheVariants as peers
use Rattle.vx_policy.specs.declared.rules.Place.{Place}
use Rattle.vx_policy.specs.declared.rules.Place.TheVariants as place
use Rattle.vx_policy.specs.declared.rules.Rule.{Rule}
use Rattle.vx_policy.specs.Grammar.{space, dot, slash, allow_text, peers_text, proc_text, place_text, rule_text, IsPeers, IsNamed, IsPlace, PolicySays, is_skipped}
use Rattle.vx_policy.specs.Cutting.{cut, named, parts, procedures, words, IsUnder, SaysBy}
use Rattle.vx_text.proofs.Laws.Cuts.{lacks, lacks-joined}
use Rattle.vx_policy.proofs.Cuts.{joined, cut-again}

-- ---- texts without a byte

-- digits aren't another byte
digits-lack : (mark : ℕ) (ds : List ℕ) → is_digit mark ≡ false → list_all is_digit ds ≡ true → lacks mark ds ≡ true
digits-lack mark [] unlike h = refl
digits-lack mark (d ∷ ds) unlike h =
    let both = and_parts (is_digit d) (list_all is_digit ds) h in
    let other : (d == mark) ≡ false = ne_eqb d mark (λ same. false≢true (sym unlike ∙ sym (ap is_digit same) ∙ both.0)) in
    and_from (not (d == mark)) (lacks mark ds) (not_from_false (d == mark) other) (digits-lack mark ds unlike both.1)

number-lacks : (mark n : ℕ) → is_digit mark ≡ false → n ≤ 255 → lacks mark (decimal n) ≡ true
number-lacks mark n unlike within = digits-lack mark (decimal n) unlike (digits_decimal own n (omega arith))

allow-lacks : (allow : Bool) → lacks space (allow_text allow) ≡ true
allow-lacks true = refl
allow-lacks false = refl

peers-lack : (p : Peers) → IsPeers p → lacks space (peers_text p) ≡ true
peers-lack peers.Any h = refl
peers-lack (peers.Under a b c d bits) h =
    lacks-joined space dot (decimal a) _ refl (number-lacks space a refl h.0)
    (lacks-joined space dot (decimal b) _ refl (number-lacks space b refl h.1)
    (lacks-joined space dot (decimal c) _ refl (number-lacks space c refl h.2)
    (lacks-joined space slash (decimal d) _ refl (number-lacks space d refl h.3)
    (let few = h.4 in number-lacks space bits refl (omega arith)))))

proc-lacks : (p : Option Proc) → lacks space (proc_text p) ≡ true
proc-lacks None = refl
proc-lacks (Some proc.CreateLink) = refl
proc-lacks (Some proc.Write) = refl
proc-lacks (Some proc.Read) = refl
proc-lacks (Some proc.ReadStb) = refl
proc-lacks (Some proc.Trigger) = refl
proc-lacks (Some proc.Clear) = refl
proc-lacks (Some proc.Remote) = refl
proc-lacks (Some proc.Local) = refl
proc-lacks (Some proc.Lock) = refl
proc-lacks (Some proc.Unlock) = refl
proc-lacks (Some proc.EnableSrq) = refl
proc-lacks (Some proc.Docmd) = refl
proc-lacks (Some proc.DestroyLink) = refl
proc-lacks (Some proc.CreateIntr) = refl
proc-lacks (Some proc.DestroyIntr) = refl
proc-lacks (Some proc.Null) = refl
proc-lacks (Some proc.DeviceAbort) = refl

-- ---- the parts of an address

-- its text is cut into its numbers again
pub parts-again : (a b c d bits : ℕ) → IsPeers (peers.Under a b c d bits)
    → parts (peers_text (peers.Under a b c d bits)) ≡ Some (decimal a, decimal b, decimal c, decimal d, decimal bits)
parts-again a b c d bits h =
    rw (
      cut-again dot (decimal a) (decimal b ++ (dot ∷ decimal c ++ (dot ∷ decimal d ++ (slash ∷ decimal bits)))) (number-lacks dot a refl h.0),
      cut-again dot (decimal b) (decimal c ++ (dot ∷ decimal d ++ (slash ∷ decimal bits))) (number-lacks dot b refl h.1),
      cut-again dot (decimal c) (decimal d ++ (slash ∷ decimal bits)) (number-lacks dot c refl h.2),
      cut-again slash (decimal d) (decimal bits) (number-lacks slash d refl h.3),
    ) refl

-- a text that was cut into parts is these
pub parts-joined : (text a b c d bits : List ℕ) → parts text ≡ Some (a, b, c, d, bits) → text ≡ a ++ (dot ∷ b ++ (dot ∷ c ++ (dot ∷ d ++ (slash ∷ bits))))
parts-joined text a b c d bits e =
    let x = gone_on _ (cut dot text) _ e in
    let y = gone_on _ (cut dot x.0.1) _ x.2 in
    let z = gone_on _ (cut dot y.0.1) _ y.2 in
    let w = mapped _ (cut slash z.0.1) _ z.2 in
    let is = w.2 in
    joined dot text x.0 x.1
    ∙ ap (λ (t : List ℕ). x.0.0 ++ dot ∷ t)
    (joined dot x.0.1 y.0 y.1
    ∙ ap (λ (t : List ℕ). y.0.0 ++ dot ∷ t)
    (joined dot y.0.1 z.0 z.1 ∙ ap (λ (t : List ℕ). z.0.0 ++ dot ∷ t) (joined slash z.0.1 w.0 w.1)))
    ∙ ap (λ (p : List ℕ × List ℕ × List ℕ × List ℕ × List ℕ). p.0 ++ (dot ∷ p.1 ++ (dot ∷ p.2 ++ (dot ∷ p.3 ++ (slash ∷ p.4))))) is

-- peers under an address are those of its parts
pub under-parts : (p : Peers) (text a b c d bits : List ℕ) → IsPeers p → p ≢ peers.Any → text ≡ peers_text p → parts text ≡ Some (a, b, c, d, bits) → IsUnder a b c d bits p
under-parts peers.Any text a b c d bits h other e cuts = absurd (other refl)
under-parts (peers.Under p q r s n) text a b c d bits h other e cuts =
    let same = same_Some _ _ (sym cuts ∙ ap parts e ∙ parts-again p q r s n h) in (
      h.0,
      ap (λ (x : List ℕ × List ℕ × List ℕ × List ℕ × List ℕ). x.0) same,
      h.1,
      ap (λ (x : List ℕ × List ℕ × List ℕ × List ℕ × List ℕ). x.1) same,
      h.2,
      ap (λ (x : List ℕ × List ℕ × List ℕ × List ℕ × List ℕ). x.2) same,
      h.3,
      ap (λ (x : List ℕ × List ℕ × List ℕ × List ℕ × List ℕ). x.3) same,
      h.4,
      ap (λ (x : List ℕ × List ℕ × List ℕ × List ℕ × List ℕ). x.4) same,
    )

-- and what they are is spelled by these
pub under-spelled : (p : Peers) (text a b c d bits : List ℕ) → IsUnder a b c d bits p → parts text ≡ Some (a, b, c, d, bits) → IsPeers p × (text ≡ peers_text p)
under-spelled peers.Any text a b c d bits h cuts = absurd h
under-spelled (peers.Under p q r s n) text a b c d bits h cuts =
    let ea = h.1 in
    let eb = h.3 in
    let ec = h.5 in
    let ed = h.7 in
    let en = h.9 in
    ((h.0, h.2, h.4, h.6, h.8), parts-joined text a b c d bits cuts ∙ rw (ea, eb, ec, ed, en) refl)

-- ---- the words of a rule

pub words-again : (r : Rule) → IsPeers r.peers → words (rule_text r) ≡ Some (allow_text r.allow, peers_text r.peers, proc_text r.proc, place_text r.place)
words-again r h =
    rw (
      cut-again space (allow_text r.allow) (peers_text r.peers ++ (space ∷ proc_text r.proc ++ (space ∷ place_text r.place))) (allow-lacks r.allow),
      cut-again space (peers_text r.peers) (proc_text r.proc ++ (space ∷ place_text r.place)) (peers-lack r.peers h),
      cut-again space (proc_text r.proc) (place_text r.place) (proc-lacks r.proc),
    ) refl

pub words-joined : (text w p q t : List ℕ) → words text ≡ Some (w, p, q, t) → text ≡ w ++ (space ∷ p ++ (space ∷ q ++ (space ∷ t)))
words-joined text w p q t e =
    let x = gone_on _ (cut space text) _ e in
    let y = gone_on _ (cut space x.0.1) _ x.2 in
    let z = mapped _ (cut space y.0.1) _ y.2 in
    let is = z.2 in
    joined space text x.0 x.1
    ∙ ap (λ (r : List ℕ). x.0.0 ++ space ∷ r) (joined space x.0.1 y.0 y.1 ∙ ap (λ (r : List ℕ). y.0.0 ++ space ∷ r) (joined space y.0.1 z.0 z.1))
    ∙ ap (λ (k : List ℕ × List ℕ × List ℕ × List ℕ). k.0 ++ (space ∷ k.1 ++ (space ∷ k.2 ++ (space ∷ k.3)))) is

-- a rule whose words these are is said by a line that is cut into them
pub says-words : (r : Rule) (text w p q t : List ℕ) → SaysBy w p q t r → words text ≡ Some (w, p, q, t) → PolicySays text r
says-words r text w p q t h cuts =
    let ew = h.0 in
    let ep = h.2 in
    let eq = h.4 in
    let et = h.6 in
    record { peers = h.1; proc = h.3; place = h.5; spelled = words-joined text w p q t cuts ∙ rw (ew, ep, eq, et) refl }

-- and a line that says it is cut into its words
pub words-say : (r : Rule) (text w p q t : List ℕ) → PolicySays text r → words text ≡ Some (w, p, q, t) → SaysBy w p q t r
words-say r text w p q t says cuts =
    let same = same_Some _ _ (sym cuts ∙ ap words says.spelled ∙ words-again r says.peers) in (
      ap (λ (k : List ℕ × List ℕ × List ℕ × List ℕ). k.0) same,
      says.peers,
      ap (λ (k : List ℕ × List ℕ × List ℕ × List ℕ). k.1) same,
      says.proc,
      ap (λ (k : List ℕ × List ℕ × List ℕ × List ℕ). k.2) same,
      says.place,
      ap (λ (k : List ℕ × List ℕ × List ℕ × List ℕ). k.3) same,
    )

-- a line that isn't cut into words says no rule
pub unsaid : (r : Rule) (text : List ℕ) → PolicySays text r → words text ≡ None → ⊥
unsaid r text says none = none-some _ (sym none ∙ ap words says.spelled ∙ words-again r says.peers)

-- a rule isn't skipped
pub rule-kept : (r : Rule) (text : List ℕ) → PolicySays text r → is_skipped text ≡ false
rule-kept r text says = ap is_skipped says.spelled ∙ by_word r.allow
  where
    by_word : (allow : Bool) → is_skipped (allow_text allow ++ (space ∷ peers_text r.peers ++ (space ∷ proc_text r.proc ++ (space ∷ place_text r.place)))) ≡ false
    by_word true = refl
    by_word false = refl

-- ---- one spelling says one rule

one-allow : (a b : Bool) → allow_text a ≡ allow_text b → a ≡ b
one-allow true true e = refl
one-allow false false e = refl
one-allow true false e = absurd cc
one-allow false true e = absurd cc

one-number : (a b : ℕ) → a ≤ 255 → b ≤ 255 → decimal a ≡ decimal b → a ≡ b
one-number a b ha hb e = decimal_injective a b (omega arith) (omega arith) e

one-peers : (p q : Peers) → IsPeers p → IsPeers q → peers_text p ≡ peers_text q → p ≡ q
one-peers peers.Any peers.Any hp hq e = refl
one-peers peers.Any (peers.Under a b c d n) hp hq e = absurd (none-some _ (ap parts e ∙ parts-again a b c d n hq))
one-peers (peers.Under a b c d n) peers.Any hp hq e = absurd (none-some _ (ap parts (sym e) ∙ parts-again a b c d n hp))
one-peers (peers.Under a b c d n) (peers.Under a' b' c' d' n') hp hq e =
    let same = same_Some _ _ (sym (parts-again a b c d n hp) ∙ ap parts e ∙ parts-again a' b' c' d' n' hq) in
    let ea : a ≡ a' = one-number a a' hp.0 hq.0 (ap (λ (x : List ℕ × List ℕ × List ℕ × List ℕ × List ℕ). x.0) same) in
    let eb : b ≡ b' = one-number b b' hp.1 hq.1 (ap (λ (x : List ℕ × List ℕ × List ℕ × List ℕ × List ℕ). x.1) same) in
    let ec : c ≡ c' = one-number c c' hp.2 hq.2 (ap (λ (x : List ℕ × List ℕ × List ℕ × List ℕ × List ℕ). x.2) same) in
    let ed : d ≡ d' = one-number d d' hp.3 hq.3 (ap (λ (x : List ℕ × List ℕ × List ℕ × List ℕ × List ℕ). x.3) same) in
    let few = hp.4 in
    let few' = hq.4 in
    let en : n ≡ n' = one-number n n' (omega arith) (omega arith) (ap (λ (x : List ℕ × List ℕ × List ℕ × List ℕ × List ℕ). x.4) same) in
    rw (ea, eb, ec, ed, en) refl

-- the word of a procedure names it
named-again : (p : Option Proc) → IsNamed p → named (proc_text p) ≡ p
named-again None h = refl
named-again (Some proc.CreateLink) h = refl
named-again (Some proc.Write) h = refl
named-again (Some proc.Read) h = refl
named-again (Some proc.ReadStb) h = refl
named-again (Some proc.Trigger) h = refl
named-again (Some proc.Clear) h = refl
named-again (Some proc.Remote) h = refl
named-again (Some proc.Local) h = refl
named-again (Some proc.Lock) h = refl
named-again (Some proc.Unlock) h = refl
named-again (Some proc.EnableSrq) h = refl
named-again (Some proc.Docmd) h = refl
named-again (Some proc.DestroyLink) h = refl
named-again (Some proc.CreateIntr) h = refl
named-again (Some proc.DestroyIntr) h = refl
named-again (Some proc.Null) h = absurd h
named-again (Some proc.DeviceAbort) h = absurd h

one-proc : (p q : Option Proc) → IsNamed p → IsNamed q → proc_text p ≡ proc_text q → p ≡ q
one-proc p q hp hq e = sym (named-again p hp) ∙ ap named e ∙ named-again q hq

-- what a word names has that word
no-word : (p : Proc) → named (proc_text (Some p)) ≡ Some p → IsNamed (Some p)
no-word proc.Null is = absurd cc
no-word proc.DeviceAbort is = absurd cc
no-word _ is = tt

pub named-word : (p : Proc) (word : List ℕ) → named word ≡ Some p → IsNamed (Some p) × (word ≡ proc_text (Some p))
named-word p word is =
    let same : proc_text (Some p) ≡ word = same_bytes (proc_text (Some p)) word (found_passes (λ q. bytes_eq (proc_text (Some q)) word) procedures p is) in
    (no-word p (ap named same ∙ is), sym same)

-- a word that isn't `*` and names nothing is that of nothing
pub unnamed : (p : Option Proc) (word : List ℕ) → word ≢ codes "*" → named word ≡ None → IsNamed p → word ≢ proc_text p
unnamed None word other none h e = other e
unnamed (Some p) word other none h e = none-some p (sym none ∙ ap named e ∙ named-again (Some p) h)

-- a number isn't a word that begins with another byte than a digit
no-number : (n c : ℕ) (cs : List ℕ) → n ≤ 30 → is_digit c ≡ false → decimal n ≡ c ∷ cs → ⊥
no-number n c cs within unlike e =
    let digits : list_all is_digit (c ∷ cs) ≡ true = ap (list_all is_digit) (sym e) ∙ digits_decimal own n (omega arith) in
    let both = and_parts (is_digit c) (list_all is_digit cs) digits in
    false≢true (sym unlike ∙ both.0)

one-place : (p q : Place) → IsPlace p → IsPlace q → place_text p ≡ place_text q → p ≡ q
one-place place.Any place.Any hp hq e = refl
one-place place.Bus place.Bus hp hq e = refl
one-place place.Any place.Bus hp hq e = absurd cc
one-place place.Bus place.Any hp hq e = absurd cc
one-place place.Any (place.At n) hp hq e = absurd (no-number n 42 _ hq refl (sym e))
one-place place.Bus (place.At n) hp hq e = absurd (no-number n 98 _ hq refl (sym e))
one-place (place.At n) place.Any hp hq e = absurd (no-number n 42 _ hp refl e)
one-place (place.At n) place.Bus hp hq e = absurd (no-number n 98 _ hp refl e)
one-place (place.At n) (place.At m) hp hq e = ap (λ (k : ℕ). place.At k) (one-number n m (omega arith) (omega arith) e)

-- a line says one rule
pub one-rule : (r s : Rule) (text : List ℕ) → PolicySays text r → PolicySays text s → r ≡ s
one-rule r s text says says' =
    let same = same_Some _ _ (sym (words-again r says.peers) ∙ ap words (sym says.spelled ∙ says'.spelled) ∙ words-again s says'.peers) in
    let allow = one-allow r.allow s.allow (ap (λ (k : List ℕ × List ℕ × List ℕ × List ℕ). k.0) same) in
    let of = one-peers r.peers s.peers says.peers says'.peers (ap (λ (k : List ℕ × List ℕ × List ℕ × List ℕ). k.1) same) in
    let what = one-proc r.proc s.proc says.proc says'.proc (ap (λ (k : List ℕ × List ℕ × List ℕ × List ℕ). k.2) same) in
    let at = one-place r.place s.place says.place says'.place (ap (λ (k : List ℕ × List ℕ × List ℕ × List ℕ). k.3) same) in
    build r.allow s.allow r.peers s.peers r.proc s.proc r.place s.place allow of what at
  where
    build : (a a' : Bool) (p p' : Peers) (q q' : Option Proc) (t t' : Place) → a ≡ a' → p ≡ p' → q ≡ q' → t ≡ t'
        → ◌≡◌ {A = Rule} (record { allow = a; peers = p; proc = q; place = t }) (record { allow = a'; peers = p'; proc = q'; place = t' })
    build a a' p p' q q' t t' ea ep eq et = rw (ea, ep, eq, et) refl

-- ---- what a reader of words finds

-- of what wasn't found nothing is shown
pub none-shown : {A B : Type 0} (f : A → B) (o : Option A) (p : Option B) → option_map f o ≡ p → o ≡ None → p ≡ None
none-shown f o p e n = sym e ∙ ap (option_map f) n

pub some-shown : {A B : Type 0} (f : A → B) (o : Option A) (p : Option B) (x : A) → option_map f o ≡ p → o ≡ Some x → p ≡ Some (f x)
some-shown f o p x e n = sym e ∙ ap (option_map f) n

-- a text that isn't cut into parts is of no peers under an address
pub unparted : (p : Peers) (text : List ℕ) → IsPeers p → text ≢ codes "*" → text ≡ peers_text p → parts text ≡ None → ⊥
unparted peers.Any text h other e none = other e
unparted (peers.Under a b c d n) text h other e none = none-some _ (sym none ∙ ap parts e ∙ parts-again a b c d n h)

pub not-any : (p : Peers) (text : List ℕ) → text ≢ codes "*" → text ≡ peers_text p → p ≢ peers.Any
not-any p text other e any = other (e ∙ ap peers_text any)

pub peers-read : (o : Option Peers) (text a b c d bits : List ℕ) → IfSome o (IsUnder a b c d bits) → parts text ≡ Some (a, b, c, d, bits)
    → IfSome o (λ p. IsPeers p × (text ≡ peers_text p))
peers-read None text a b c d bits h cuts = tt
peers-read (Some p) text a b c d bits h cuts = under-spelled p text a b c d bits h cuts

pub rule-read : (o : Option Rule) (text w p q t : List ℕ) → IfSome o (SaysBy w p q t) → words text ≡ Some (w, p, q, t) → IfSome o (λ r. PolicySays text r)
rule-read None text w p q t h cuts = tt
rule-read (Some r) text w p q t h cuts = says-words r text w p q t h cuts
