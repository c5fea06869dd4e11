-- What is sorted or read as something is spelled as that.
use Rattle.std.proofs.Common.{◌≡◌, ℕ, ◌^◌, ◌<◌, ◌≤◌, Bool, true, false, ◌&&◌, cond, ltb, List, [], ◌∷◌, ◌++◌, length, drop, Option, None, Some, Result, Ok, Err, refl, sym, ap, subst, ◌∙◌, arith}
use Rattle.std.specs.Prelude.{not, ◌||◌, ◌==◌}
use Rattle.std.specs.List.{list_all}
use Rattle.std.proofs.lemmas.Bool.{le-ltb, ltb-false, false≢true, or_parts}
use Rattle.std.proofs.lemmas.Bool.Decides.{Decides-eqb}
use Rattle.std.proofs.lemmas.List.{drop-drop, length-drop}
use Rattle.byteorder.specs.Endian.{big_number}
use Rattle.vx_calls.specs.declared.calls.Role.{Role}
use Rattle.vx_calls.specs.declared.calls.Role.TheVariants as role
use Rattle.vx_calls.specs.declared.calls.Proc.{Proc}
use Rattle.vx_xdr.specs.declared.fault.XdrErr.{XdrErr}
use Rattle.vx_xdr.specs.Spelling.{Word, Opaque, AreBytes, word, opaque}
use Rattle.vx_xdr.specs.Reading.{◌>>=◌, reading}
use Rattle.vx_xdr.proofs.Laws.{bind_ok, ok_is, reading-takes}
use Rattle.vx_rpc.specs.declared.refusal.RpcRefusal.{RpcRefusal}
use Rattle.vx_rpc.specs.Procedure.{program, proc_number, procedures, with_number, procedure, serves}
use Rattle.vx_rpc.specs.Header.{number_at, behind_auth, CallBody, call_body, accepted_body}
use Rattle.vx_rpc.specs.Sorting.{Sorting, Call, Refuse, Junk, sorted_procedure, sorted_body, sorted}
use Rattle.vx_rpc.specs.ReplyMeaning.{ReplyMeaning, Success, Refused, Bad, accept_refusal, reject_refusal, refused, accepted, denied, reply_body, reply_meaning}
use Rattle.vx_rpc.specs.Spelled.{Auth, FitsAuth, auth_text, IsCall, IsAccepted, IsDenied, IsSuccess, IsRefused, unexecuted}
use Rattle.vx_rpc.specs.Spelled as spelled

-- ---- tests

not_false : (b : Bool) → not b ≡ false → b ≡ true
not_false true e = refl
not_false false e = absurd cc

is_number : (m n : ℕ) → not (m == n) ≡ false → m ≡ n
is_number m n e = (Decides-eqb m n).0 (not_false (m == n) e)

-- ---- words and credentials

-- the first three words, and the rest
record Front (m : List ℕ) : Type 0 where
  fits : number_at 0 m < 2 ^ 32
  parts : m ≡ word (number_at 0 m) ++ (word (number_at 1 m) ++ (word (number_at 2 m) ++ drop 12 m))
  rest_fits : AreBytes (drop 12 m)

-- a word in front
record Split (m : List ℕ) : Type 0 where
  fits : big_number 4 m < 2 ^ 32
  parts : m ≡ word (big_number 4 m) ++ drop 4 m
  rest_fits : AreBytes (drop 4 m)

split : (m : List ℕ) → 4 ≤ length m → AreBytes m → Split m
split m long h =
    let enough : ltb (length m) 4 ≡ false = le-ltb _ _ long in
    let read : reading Word m ≡ Ok (big_number 4 m, drop 4 m) = rw enough refl in
    let t = reading-takes Word (big_number 4 m) m (drop 4 m) h read in
    record { fits = t.fits; parts = t.parts; rest_fits = t.rest_fits }

-- three words in front of a text
joined : (m rest text : List ℕ) (k l n a b c : ℕ) → m ≡ word k ++ (word l ++ (word n ++ rest)) → k ≡ a → l ≡ b → n ≡ c → rest ≡ text
    → m ≡ word a ++ (word b ++ (word c ++ text))
joined m rest text k l n a b c e h₁ h₂ h₃ h₄ =
    e
    ∙ ap (λ (k : ℕ). word k ++ (word l ++ (word n ++ rest))) h₁
    ∙ ap (λ (l : ℕ). word a ++ (word l ++ (word n ++ rest))) h₂
    ∙ ap (λ (n : ℕ). word a ++ (word b ++ (word n ++ rest))) h₃
    ∙ ap (λ (rest : List ℕ). word a ++ (word b ++ (word c ++ rest))) h₄

front : (m : List ℕ) → 12 ≤ length m → AreBytes m → Front m
front m long h =
    let one = split m (omega arith) h in
    let two = split (drop 4 m) (omega (arith, length-drop 4 m)) one.rest_fits in
    let three = split (drop 4 (drop 4 m)) (omega (arith, length-drop 4 m, length-drop 4 (drop 4 m))) two.rest_fits in
    let at_8 : drop 4 (drop 4 m) ≡ drop 8 m = drop-drop 4 4 m in
    let at_12 : drop 4 (drop 4 (drop 4 m)) ≡ drop 12 m = ap (drop 4) at_8 ∙ drop-drop 4 8 m in
    let whole : m ≡ word (big_number 4 m) ++ (word (big_number 4 (drop 4 m)) ++ (word (big_number 4 (drop 4 (drop 4 m))) ++ drop 4 (drop 4 (drop 4 m)))) =
    one.parts ∙ ap (λ (t : List ℕ). word (big_number 4 m) ++ t) (two.parts ∙ ap (λ (t : List ℕ). word (big_number 4 (drop 4 m)) ++ t) three.parts) in
    record {
      fits = one.fits;
      parts = joined m _ _ _ _ _ (number_at 0 m) (number_at 1 m) (number_at 2 m) whole refl refl (ap (big_number 4) at_8) at_12;
      rest_fits = subst AreBytes at_12 three.rest_fits;
    }

-- a credential or a verifier was taken from the front
record TakesAuth (bytes rest : List ℕ) : Type 0 where
  auth : Auth
  fits : FitsAuth auth
  text : bytes ≡ auth_text auth ++ rest
  rest_fits : AreBytes rest

takes_auth : (bytes rest : List ℕ) → AreBytes bytes → behind_auth bytes ≡ Ok rest → TakesAuth bytes rest
takes_auth bytes rest h e =
    let one = bind_ok (reading Word bytes) (λ flavor. reading (Opaque 400) flavor.1 >>= λ body. Ok body.1) rest e in
    let flavor = reading-takes Word one.0.0 bytes one.0.1 h one.1 in
    let two = bind_ok (reading (Opaque 400) one.0.1) (λ body. Ok body.1) rest one.2 in
    let body = reading-takes (Opaque 400) two.0.0 one.0.1 two.0.1 flavor.rest_fits two.1 in
    let same : two.0.1 ≡ rest = ok_is two.0.1 rest two.2 in
    let behind : one.0.1 ≡ opaque two.0.0 ++ rest = body.parts ∙ ap (λ (t : List ℕ). opaque two.0.0 ++ t) same in
    record {
      auth = record { flavor = one.0.0; body = two.0.0 };
      fits = (flavor.fits, body.fits.0);
      text = flavor.parts ∙ ap (λ (t : List ℕ). word one.0.0 ++ t) behind;
      rest_fits = subst AreBytes same body.rest_fits;
    }

-- ---- calls

-- a call's body was read
record TakesBody (bytes : List ℕ) (body : CallBody) : Type 0 where
  credential : Auth
  credential_fits : FitsAuth credential
  verifier : Auth
  verifier_fits : FitsAuth verifier
  text : bytes ≡ word body.program ++ (word body.version ++ (word body.procedure ++ (auth_text credential ++ (auth_text verifier ++ body.args))))

five_parts : (bytes a b c d e : List ℕ) (p v n : ℕ) (cred verf : Auth)
    → bytes ≡ word p ++ a → a ≡ word v ++ b → b ≡ word n ++ c → c ≡ auth_text cred ++ d → d ≡ auth_text verf ++ e
    → bytes ≡ word p ++ (word v ++ (word n ++ (auth_text cred ++ (auth_text verf ++ e))))
five_parts bytes a b c d e p v n cred verf h₁ h₂ h₃ h₄ h₅ =
    h₁ ∙ ap (λ (t : List ℕ). word p ++ t) (h₂ ∙ ap (λ (t : List ℕ). word v ++ t) (h₃ ∙ ap (λ (t : List ℕ). word n ++ t) (h₄ ∙ ap (λ (t : List ℕ). auth_text cred ++ t) h₅)))

-- what stands for a body stands for one that is the same
moved_body : (bytes : List ℕ) (a b : CallBody) → a ≡ b → TakesBody bytes a → TakesBody bytes b
moved_body bytes a b e h = subst (TakesBody bytes) e h

takes_body : (bytes : List ℕ) (body : CallBody) → AreBytes bytes → call_body bytes ≡ Ok body → TakesBody bytes body
takes_body bytes body h e =
    let one = bind_ok (reading Word bytes)
    (λ prog. reading Word prog.1 >>= λ vers. reading Word vers.1 >>= λ number. behind_auth number.1 >>= λ behind_cred. behind_auth behind_cred >>= λ arguments. Ok (record { program = prog.0; version = vers.0; procedure = number.0; args = arguments })) body e in
    let p = one.0.0 in
    let prog = reading-takes Word p bytes one.0.1 h one.1 in
    let two = bind_ok (reading Word one.0.1)
    (λ vers. reading Word vers.1 >>= λ number. behind_auth number.1 >>= λ behind_cred. behind_auth behind_cred >>= λ arguments. Ok (record { program = p; version = vers.0; procedure = number.0; args = arguments })) body one.2 in
    let v = two.0.0 in
    let vers = reading-takes Word v one.0.1 two.0.1 prog.rest_fits two.1 in
    let three = bind_ok (reading Word two.0.1)
    (λ number. behind_auth number.1 >>= λ behind_cred. behind_auth behind_cred >>= λ arguments. Ok (record { program = p; version = v; procedure = number.0; args = arguments })) body two.2 in
    let n = three.0.0 in
    let number = reading-takes Word n two.0.1 three.0.1 vers.rest_fits three.1 in
    let four = bind_ok (behind_auth three.0.1)
    (λ behind_cred. behind_auth behind_cred >>= λ arguments. Ok (record { program = p; version = v; procedure = n; args = arguments })) body three.2 in
    let cred = takes_auth three.0.1 four.0 number.rest_fits four.1 in
    let five = bind_ok (behind_auth four.0) (λ arguments. Ok (record { program = p; version = v; procedure = n; args = arguments })) body four.2 in
    let verf = takes_auth four.0 five.0 cred.rest_fits five.1 in
    let found : CallBody = record { program = p; version = v; procedure = n; args = five.0 } in
    let same : found ≡ body = ok_is found body five.2 in
    let here : TakesBody bytes found = record {
      credential = cred.auth;
      credential_fits = cred.fits;
      verifier = verf.auth;
      verifier_fits = verf.fits;
      text = five_parts bytes one.0.1 two.0.1 three.0.1 four.0 five.0 p v n cred.auth verf.auth prog.parts vers.parts number.parts cred.text verf.text;
    } in
    moved_body bytes found body same here

-- a test that did not answer junk, or refuse
past_junk : (b : Bool) (x : Sorting) (xid : ℕ) (p : Proc) (args : List ℕ) → cond b Junk x ≡ Call xid p args → (b ≡ false) × (x ≡ Call xid p args)
past_junk true x xid p args e = absurd cc
past_junk false x xid p args e = (refl, e)

past_refuse : (b : Bool) (n : ℕ) (r : RpcRefusal) (x : Sorting) (xid : ℕ) (p : Proc) (args : List ℕ) → cond b (Refuse n r) x ≡ Call xid p args → (b ≡ false) × (x ≡ Call xid p args)
past_refuse true n r x xid p args e = absurd cc
past_refuse false n r x xid p args e = (refl, e)

-- a procedure by its number
with_number-is : (n : ℕ) (ps : List Proc) (p : Proc) → with_number n ps ≡ Some p → n ≡ proc_number p
with_number-is n [] p e = absurd cc
with_number-is n (q ∷ ps) p e = found_number n q p (n == proc_number q) (with_number n ps) refl (with_number-is n ps p) e
  where
    found_number : (n : ℕ) (q p : Proc) (b : Bool) (rest : Option Proc) → (n == proc_number q) ≡ b → (rest ≡ Some p → n ≡ proc_number p) → cond b (Some q) rest ≡ Some p → n ≡ proc_number p
    found_number n q p true rest h others e = let same : q ≡ p = cc in (Decides-eqb n (proc_number q)).0 h ∙ ap proc_number same
    found_number n q p false rest h others e = others e

with_number-in : (r : Role) (n : ℕ) (ps : List Proc) (p : Proc) → list_all (serves r) ps ≡ true → with_number n ps ≡ Some p → serves r p ≡ true
with_number-in r n [] p h e = absurd cc
with_number-in r n (q ∷ ps) p h e = found_in r q p (n == proc_number q) (serves r q) (list_all (serves r) ps) (with_number n ps) refl h (with_number-in r n ps p) e
  where
    found_in : (r : Role) (q p : Proc) (b s t : Bool) (rest : Option Proc) → serves r q ≡ s → (s && t) ≡ true → (t ≡ true → rest ≡ Some p → serves r p ≡ true) → cond b (Some q) rest ≡ Some p → serves r p ≡ true
    found_in r q p b false t rest hs h others e = absurd (false≢true h)
    found_in r q p true true t rest hs h others e = let same : q ≡ p = cc in ap (serves r) (sym same) ∙ hs
    found_in r q p false true t rest hs h others e = others h e

procedures-served : (r : Role) → list_all (serves r) (procedures r) ≡ true
procedures-served role.Core = refl
procedures-served role.Abort = refl

-- a procedure was found
record FoundProcedure (n : ℕ) (found : Option Proc) (text : List ℕ) (xid : ℕ) (p : Proc) (args : List ℕ) : Type 0 where
  xid_is : n ≡ xid
  found_is : found ≡ Some p
  args_is : text ≡ args

found_procedure : (n : ℕ) (found : Option Proc) (text : List ℕ) (xid : ℕ) (p : Proc) (args : List ℕ) → sorted_procedure n found text ≡ Call xid p args → FoundProcedure n found text xid p args
found_procedure n None text xid p args e = absurd cc
found_procedure n (Some q) text xid p args e = record { xid_is = cc; found_is = cc; args_is = cc }

-- a body was sorted as a call
record IsBody (r : Role) (n : ℕ) (bytes : List ℕ) (xid : ℕ) (p : Proc) (args : List ℕ) : Type 0 where
  xid_is : n ≡ xid
  served : serves r p ≡ true
  credential : Auth
  credential_fits : FitsAuth credential
  verifier : Auth
  verifier_fits : FitsAuth verifier
  text : bytes ≡ word (program r) ++ (word 1 ++ (word (proc_number p) ++ (auth_text credential ++ (auth_text verifier ++ args))))

is_body : (r : Role) (n : ℕ) (bytes : List ℕ) (found : Result CallBody XdrErr) (xid : ℕ) (p : Proc) (args : List ℕ)
    → AreBytes bytes → call_body bytes ≡ found → sorted_body n r found ≡ Call xid p args → IsBody r n bytes xid p args
is_body r n bytes (Err d) xid p args h is e = absurd cc
is_body r n bytes (Ok body) xid p args h is e =
    let one = past_refuse (not (body.program == program r)) n _ _ xid p args e in
    let two = past_refuse (not (body.version == 1)) n _ _ xid p args one.1 in
    let found = found_procedure n (procedure r body.procedure) body.args xid p args two.1 in
    let t = takes_body bytes body h is in
    let number = with_number-is body.procedure (procedures r) p found.found_is in
    record {
      xid_is = found.xid_is;
      served = with_number-in r body.procedure (procedures r) p (procedures-served r) found.found_is;
      credential = t.credential;
      credential_fits = t.credential_fits;
      verifier = t.verifier;
      verifier_fits = t.verifier_fits;
      text = joined bytes _ _ _ _ _ (program r) 1 (proc_number p) t.text (is_number _ _ one.0) (is_number _ _ two.0) number
          (ap (λ (a : List ℕ). auth_text t.credential ++ (auth_text t.verifier ++ a)) found.args_is);
    }

pub sorted-IsCall : (r : Role) (xid : ℕ) (p : Proc) (args message : List ℕ) → AreBytes message → sorted message r ≡ Call xid p args → IsCall r xid p args message
sorted-IsCall r xid p args message h e =
    let one = past_junk (ltb (length message) 12 || not (number_at 1 message == 0)) _ xid p args e in
    let start = or_parts (ltb (length message) 12) (not (number_at 1 message == 0)) one.0 in
    let two = past_refuse (not (number_at 2 message == 2)) _ _ _ xid p args one.1 in
    let f = front message (ltb-false _ _ start.0) h in
    let body = is_body r (number_at 0 message) (drop 12 message) (call_body (drop 12 message)) xid p args f.rest_fits refl two.1 in
    record {
      served = body.served;
      xid_fits = subst (λ (n : ℕ). n < 2 ^ 32) body.xid_is f.fits;
      credential = body.credential;
      credential_fits = body.credential_fits;
      verifier = body.verifier;
      verifier_fits = body.verifier_fits;
      text = joined message _ _ _ _ _ xid 0 2 f.parts body.xid_is (is_number _ _ start.1) (is_number _ _ two.0) body.text;
    }

-- ---- replies

-- a test that did not answer bad
past_bad : (b : Bool) (x y : ReplyMeaning) → (Bad ≡ y → ⊥) → cond b Bad x ≡ y → (b ≡ false) × (x ≡ y)
past_bad true x y not_bad e = absurd (not_bad e)
past_bad false x y not_bad e = (refl, e)

-- a refusal is no success
refused-no_success : (n : ℕ) (found : Option (RpcRefusal × ℕ)) (rest : List ℕ) (xid : ℕ) (results : List ℕ) → refused n found rest ≡ Success xid results → ⊥
refused-no_success n None rest xid results e = cc
refused-no_success n (Some (r, size)) rest xid results e = sized n r xid results (length rest == size) e
  where
    sized : (n : ℕ) (r : RpcRefusal) (xid : ℕ) (results : List ℕ) (b : Bool) → cond b (Refused n r) Bad ≡ Success xid results → ⊥
    sized n r xid results true e = cc
    sized n r xid results false e = cc

-- a refusal with the bytes that it carries
record IsCarried (n : ℕ) (found : Option (RpcRefusal × ℕ)) (rest : List ℕ) (xid : ℕ) (r : RpcRefusal) : Type 0 where
  xid_is : n ≡ xid
  found_is : found ≡ Some (r, length rest)

is_carried : (n : ℕ) (found : Option (RpcRefusal × ℕ)) (rest : List ℕ) (xid : ℕ) (r : RpcRefusal) → refused n found rest ≡ Refused xid r → IsCarried n found rest xid r
is_carried n None rest xid r e = absurd cc
is_carried n (Some (q, size)) rest xid r e = sized n q rest size xid r (length rest == size) refl e
  where
    sized : (n : ℕ) (q : RpcRefusal) (rest : List ℕ) (size xid : ℕ) (r : RpcRefusal) (b : Bool) → (length rest == size) ≡ b → cond b (Refused n q) Bad ≡ Refused xid r → IsCarried n (Some (q, size)) rest xid r
    sized n q rest size xid r true h e =
        let len = (Decides-eqb (length rest) size).0 h in
        let same : q ≡ r = cc in
        record { xid_is = cc; found_is = ap (λ (k : ℕ). Some (q, k)) (sym len) ∙ ap (λ (k : RpcRefusal). Some (k, length rest)) same }
    sized n q rest size xid r false h e = absurd cc

-- an accepted reply was read
record TakesAccepted (bytes : List ℕ) (stat : ℕ) (carried : List ℕ) : Type 0 where
  fits : stat < 2 ^ 32
  verifier : Auth
  verifier_fits : FitsAuth verifier
  text : bytes ≡ auth_text verifier ++ (word stat ++ carried)

takes_accepted : (bytes : List ℕ) (stat : ℕ) (carried : List ℕ) → AreBytes bytes → accepted_body bytes ≡ Ok (stat, carried) → TakesAccepted bytes stat carried
takes_accepted bytes stat carried h e =
    let one = bind_ok (behind_auth bytes) (λ behind_verf. reading Word behind_verf) (stat, carried) e in
    let verf = takes_auth bytes one.0 h one.1 in
    let t = reading-takes Word stat one.0 carried verf.rest_fits one.2 in
    record {
      fits = t.fits;
      verifier = verf.auth;
      verifier_fits = verf.fits;
      text = verf.text ∙ ap (λ (t : List ℕ). auth_text verf.auth ++ t) t.parts;
    }

-- what a reply said, in its first words and behind them
data Said (n stat : ℕ) (body : List ℕ) (y : ReplyMeaning) : Type 0 where
  said_accepted : stat ≡ 0 → (code : ℕ) (carried : List ℕ) → accepted_body body ≡ Ok (code, carried) → accepted n (Ok (code, carried)) ≡ y → Said n stat body y
  said_denied : stat ≡ 1 → (code : ℕ) (carried : List ℕ) → reading Word body ≡ Ok (code, carried) → denied n (Ok (code, carried)) ≡ y → Said n stat body y

said_if_accepted : (n stat : ℕ) (body : List ℕ) (y : ReplyMeaning) (found : Result (ℕ × List ℕ) XdrErr) → (Bad ≡ y → ⊥) → stat ≡ 0 → accepted_body body ≡ found → accepted n found ≡ y → Said n stat body y
said_if_accepted n stat body y (Err d) not_bad z is e = absurd (not_bad e)
said_if_accepted n stat body y (Ok (code, carried)) not_bad z is e = said_accepted z code carried is e

said_if_denied : (n stat : ℕ) (body : List ℕ) (y : ReplyMeaning) (found : Result (ℕ × List ℕ) XdrErr) → (Bad ≡ y → ⊥) → stat ≡ 1 → reading Word body ≡ found → denied n found ≡ y → Said n stat body y
said_if_denied n stat body y (Err d) not_bad z is e = absurd (not_bad e)
said_if_denied n stat body y (Ok (code, carried)) not_bad z is e = said_denied z code carried is e

said : (n stat : ℕ) (body : List ℕ) (y : ReplyMeaning) (a b : Bool) → (Bad ≡ y → ⊥) → (stat == 0) ≡ a → (stat == 1) ≡ b
    → cond a (accepted n (accepted_body body)) (cond b (denied n (reading Word body)) Bad) ≡ y → Said n stat body y
said n stat body y true b not_bad ha hb e = said_if_accepted n stat body y (accepted_body body) not_bad ((Decides-eqb stat 0).0 ha) refl e
said n stat body y false true not_bad ha hb e = said_if_denied n stat body y (reading Word body) not_bad ((Decides-eqb stat 1).0 hb) refl e
said n stat body y false false not_bad ha hb e = absurd (not_bad e)

-- a reply that isn't bad has three words, of which the second is 1
record Heard (message : List ℕ) (y : ReplyMeaning) : Type 0 where
  start : Front message
  kind : number_at 1 message ≡ 1
  what : Said (number_at 0 message) (number_at 2 message) (drop 12 message) y

heard : (message : List ℕ) (y : ReplyMeaning) → (Bad ≡ y → ⊥) → AreBytes message → reply_meaning message ≡ y → Heard message y
heard message y not_bad h e =
    let one = past_bad (ltb (length message) 12 || not (number_at 1 message == 1)) (reply_body (number_at 0 message) (number_at 2 message) (drop 12 message)) y not_bad e in
    let start = or_parts (ltb (length message) 12) (not (number_at 1 message == 1)) one.0 in
    record {
      start = front message (ltb-false _ _ start.0) h;
      kind = is_number _ _ start.1;
      what = said (number_at 0 message) (number_at 2 message) (drop 12 message) y (number_at 2 message == 0) (number_at 2 message == 1) not_bad refl refl one.1;
    }

-- an accepted reply, put together
accepted_whole : (message : List ℕ) (xid stat : ℕ) (carried : List ℕ) → Front message → number_at 1 message ≡ 1 → number_at 2 message ≡ 0 → number_at 0 message ≡ xid
    → accepted_body (drop 12 message) ≡ Ok (stat, carried) → IsAccepted xid stat carried message
accepted_whole message xid stat carried f kind ok same e =
    let t = takes_accepted (drop 12 message) stat carried f.rest_fits e in
    record {
      xid_fits = subst (λ (n : ℕ). n < 2 ^ 32) same f.fits;
      stat_fits = t.fits;
      verifier = t.verifier;
      verifier_fits = t.verifier_fits;
      text = joined message _ _ _ _ _ xid 1 0 f.parts same kind ok t.text;
    }

denied_whole : (message : List ℕ) (xid stat : ℕ) (carried : List ℕ) → Front message → number_at 1 message ≡ 1 → number_at 2 message ≡ 1 → number_at 0 message ≡ xid
    → reading Word (drop 12 message) ≡ Ok (stat, carried) → IsDenied xid stat carried message
denied_whole message xid stat carried f kind ok same e =
    let t = reading-takes Word stat (drop 12 message) carried f.rest_fits e in
    record {
      xid_fits = subst (λ (n : ℕ). n < 2 ^ 32) same f.fits;
      stat_fits = t.fits;
      text = joined message _ _ _ _ _ xid 1 1 f.parts same kind ok t.parts;
    }

-- an accepted reply with results, with a refusal
success_code : (n code : ℕ) (carried : List ℕ) (xid : ℕ) (results : List ℕ) (b : Bool) → (code == 0) ≡ b → cond b (Success n carried) (refused n (accept_refusal code) carried) ≡ Success xid results
    → (code ≡ 0) × (n ≡ xid) × (carried ≡ results)
success_code n code carried xid results true h e = ((Decides-eqb code 0).0 h, cc, cc)
success_code n code carried xid results false h e = absurd (refused-no_success n (accept_refusal code) carried xid results e)

refusal_code : (n code : ℕ) (carried : List ℕ) (xid : ℕ) (r : RpcRefusal) (b : Bool) → cond b (Success n carried) (refused n (accept_refusal code) carried) ≡ Refused xid r
    → refused n (accept_refusal code) carried ≡ Refused xid r
refusal_code n code carried xid r true e = absurd cc
refusal_code n code carried xid r false e = e

bad-no_success : (xid : ℕ) (results : List ℕ) → Bad ≡ Success xid results → ⊥
bad-no_success xid results e = cc

bad-no_refusal : (xid : ℕ) (r : RpcRefusal) → Bad ≡ Refused xid r → ⊥
bad-no_refusal xid r e = cc

is_success : (message : List ℕ) (xid : ℕ) (results : List ℕ) → Front message → number_at 1 message ≡ 1
    → Said (number_at 0 message) (number_at 2 message) (drop 12 message) (Success xid results) → IsSuccess xid results message
is_success message xid results f kind (said_accepted z code carried is e) =
    let t = success_code (number_at 0 message) code carried xid results (code == 0) refl e in
    let same : accepted_body (drop 12 message) ≡ Ok (0, results) = is ∙ ap (λ (k : ℕ). Ok (k, carried)) t.0 ∙ ap (λ (k : List ℕ). Ok (0, k)) t.2 in
    accepted_whole message xid 0 results f kind z t.1 same
is_success message xid results f kind (said_denied z code carried is e) = absurd (refused-no_success (number_at 0 message) (reject_refusal code) carried xid results e)

is_refused : (message : List ℕ) (xid : ℕ) (r : RpcRefusal) → Front message → number_at 1 message ≡ 1
    → Said (number_at 0 message) (number_at 2 message) (drop 12 message) (Refused xid r) → IsRefused xid r message
is_refused message xid r f kind (said_accepted z code carried is e) =
    let t = is_carried (number_at 0 message) (accept_refusal code) carried xid r (refusal_code (number_at 0 message) code carried xid r (code == 0) e) in
    unexecuted code carried t.found_is (accepted_whole message xid code carried f kind z t.xid_is is)
is_refused message xid r f kind (said_denied z code carried is e) =
    let t = is_carried (number_at 0 message) (reject_refusal code) carried xid r e in
    spelled.denied code carried t.found_is (denied_whole message xid code carried f kind z t.xid_is is)

pub reply-IsSuccess : (xid : ℕ) (results message : List ℕ) → AreBytes message → reply_meaning message ≡ Success xid results → IsSuccess xid results message
reply-IsSuccess xid results message h e =
    let t = heard message (Success xid results) (bad-no_success xid results) h e in
    is_success message xid results t.start t.kind t.what

pub reply-IsRefused : (xid : ℕ) (r : RpcRefusal) (message : List ℕ) → AreBytes message → reply_meaning message ≡ Refused xid r → IsRefused xid r message
reply-IsRefused xid r message h e =
    let t = heard message (Refused xid r) (bad-no_refusal xid r) h e in
    is_refused message xid r t.start t.kind t.what
