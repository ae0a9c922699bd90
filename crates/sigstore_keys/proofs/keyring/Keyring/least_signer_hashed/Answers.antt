use Rattle.std.proofs.Common.{Some, sym, ap, ◌∙◌}
use Rattle.sigstore_keys.proofs.Signers.{least_found, least_behind, sorted_behind}
use Rattle.sigstore_keys.proofs.keyring.Keyring.least_signer_hashed.Goals as goal

pub returns-then-is_signer : goal.returns-then-is_signer
returns-then-is_signer g c =
    ap Some (c.new.ensures ∙ c.as_array.ensures)
    ∙ sym (least_found (g.C.CryptoProvider.accepts c.args.provider.now) c.args.hint.now c.args.time c.args.message.now c.args.signature.now
    c.args.self.now c.keys.id-iterator c.next.new.self c.in-Some.id.now c.in-Some.held.now c.keys.invariant.sorted c.keys.invariant.same
    c.in-Some.ensures.steps (sym c.is_signer.ensures ∙ c.if-is_signer.true))

pub keys-preserved : goal.keys-preserved
keys-preserved g c = record {
  next = tt;
  finite = tt;
  sorted = sorted_behind (g.C.CryptoProvider.accepts c.args.provider.now) c.args.hint.now c.args.time c.args.message.now c.args.signature.now
      c.keys.id-iterator c.next.new.self c.in-Some.id.now c.in-Some.held.now c.keys.invariant.sorted c.in-Some.ensures.steps;
  same = least_behind (g.C.CryptoProvider.accepts c.args.provider.now) c.args.hint.now c.args.time c.args.message.now c.args.signature.now
      c.args.self.now c.keys.id-iterator c.next.new.self c.in-Some.id.now c.in-Some.held.now c.keys.invariant.same c.in-Some.ensures.steps
      (sym c.is_signer.ensures ∙ c.if-is_signer.false);
}
