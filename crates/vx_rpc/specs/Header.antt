-- To be believed.
-- What stands in front of a call's arguments and of a reply's results (RFC 5531, section 9).
use Rattle.std.specs.Prelude.{ℕ, ◌*◌, List, drop, Result, Ok}
use Rattle.byteorder.specs.Endian.{big_number}
use Rattle.vx_xdr.specs.declared.fault.XdrErr.{XdrErr}
use Rattle.vx_rpc.specs.declared.header.CallHeader.{CallHeader}
use Rattle.vx_xdr.specs.Spelling.{Word, Opaque}
use Rattle.vx_xdr.specs.Reading.{◌>>=◌, reading}

-- the number of a message's word, counted from 0 (RFC 4506, section 4.2)
abbrev pub number_at : ℕ → List ℕ → ℕ
number_at i message = big_number 4 (drop (4 * i) message)

-- the first three words of a message
abbrev pub three_words : List ℕ → Result (ℕ × ℕ × ℕ) XdrErr
three_words message = do
  first ← reading Word message
  second ← reading Word first.1
  third ← reading Word second.1
  Ok (first.0, second.0, third.0)

-- what stands behind a credential or a verifier of any flavor: a word and an opaque of at most 400 bytes (RFC 5531, section 8.2)
abbrev pub behind_auth : List ℕ → Result (List ℕ) XdrErr
behind_auth bytes = do
  flavor ← reading Word bytes
  body ← reading (Opaque 400) flavor.1
  Ok body.1

-- a call behind its first three words
pub record CallBody : Type 0 where
  pub program : ℕ
  pub version : ℕ
  pub procedure : ℕ
  pub args : List ℕ

-- program, version, procedure, credential, verifier, arguments (RFC 5531, section 9, call_body)
abbrev pub call_body : List ℕ → Result CallBody XdrErr
call_body bytes = do
  prog ← reading Word bytes
  vers ← reading Word prog.1
  number ← reading Word vers.1
  behind_cred ← behind_auth number.1
  arguments ← behind_auth behind_cred
  Ok (record { program = prog.0; version = vers.0; procedure = number.0; args = arguments })

-- the body that a header shows, in front of these bytes' end
abbrev pub body_shown : List ℕ → CallHeader → CallBody
body_shown bytes header =
    record { program = header.program; version = header.version; procedure = header.procedure; args = drop header.len bytes }

-- a verifier, a status, and what that status carries (RFC 5531, section 9, accepted_reply)
abbrev pub accepted_body : List ℕ → Result (ℕ × List ℕ) XdrErr
accepted_body bytes = do
  behind_verf ← behind_auth bytes
  reading Word behind_verf
