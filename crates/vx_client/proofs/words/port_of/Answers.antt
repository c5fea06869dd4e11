use Rattle.std.proofs.Common.{◌≡◌, sym, ap, ◌∙◌, true}
use Rattle.vx_client.specs.Asked.{is_positive}
use Rattle.vx_client.proofs.Ports.{parsed-port}
use Rattle.vx_client.proofs.words.port_of.Goals as goal

pub returns : goal.returns
returns c =
    let text = c.args.text.now in
    let shape : is_positive text ≡ true = ap is_positive (sym c.as_bytes.ensures.value) ∙ sym c.is_positive.ensures ∙ c.if-not-is_positive.false in
    c.ok.ensures.value ∙ parsed-port text c.parse.result shape c.parse.ensures.value.0
