use Rattle.std.proofs.Common.{rules, ◌≡◌, true, false, refl, sym, ◌∙◌, subst}
use Rattle.sigstore_keys.specs.Keyring.{GoodUnder}
use Rattle.sigstore_keys.proofs.Rings.{not_so, passes, good_found, passed_over, none_good}
use Rattle.sigstore_keys.proofs.keyring.Keyring.verify_any.Goals as goal

pub returns-then-is_ok-clause-ok : goal.returns-then-is_ok-clause-ok
returns-then-is_ok-clause-ok g c =
    let accepts = g.C.CryptoProvider.accepts c.args.provider.now in
    let good : passes accepts c.args.message.now c.args.signature.now c.in-Some.held.now ≡ true = search rules in
    subst (GoodUnder accepts c.args.self.now c.args.message.now c.args.signature.now) (sym (c.new.ensures ∙ c.as_array.ensures))
    (good_found accepts c.args.message.now c.args.signature.now c.args.self.now c.keys.id-iterator c.next.new.self c.in-Some.id.now c.in-Some.held.now
    c.keys.invariant.sorted c.keys.invariant.same c.in-Some.ensures.steps good)

pub keys-preserved : goal.keys-preserved
keys-preserved g c =
    let accepts = g.C.CryptoProvider.accepts c.args.provider.now in
    let bad : passes accepts c.args.message.now c.args.signature.now c.in-Some.held.now ≡ false = not_so _ _ c.verify.ensures.good.1 (sym c.is_ok.ensures.value ∙ c.if-is_ok.false) in
    record {
      next = tt;
      finite = tt;
      sorted = c.keys.invariant.sorted;
      same = passed_over accepts c.args.message.now c.args.signature.now c.args.self.now c.keys.id-iterator c.next.new.self c.in-Some.id.now
          c.in-Some.held.now c.keys.invariant.same c.in-Some.ensures.steps bad;
    }

pub returns-clause-err : goal.returns-clause-err
returns-clause-err g c =
    let accepts = g.C.CryptoProvider.accepts c.args.provider.now in
    (refl, λ id under. none_good accepts c.args.message.now c.args.signature.now c.args.self.now c.keys.id-iterator c.keys.invariant.same c.in-None.ensures.steps.0 id under)
