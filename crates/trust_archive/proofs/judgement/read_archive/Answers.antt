use Rattle.std.proofs.Common.{sym, ◌∙◌, arith}
use Rattle.std.proofs.lemmas.Result.{IfOk-weaker, IfErr-weaker}
use Rattle.foundation.specs.Results.{no_both}
use Rattle.der_grammar.specs.TlvLaws.{IsBytes-from_each}
use Rattle.sigstore_keys.specs.Crypto.{crypto_with}
use Rattle.trust_archive.proofs.Causes.{chain_cause}
use Rattle.trust_archive.proofs.Whole.{chain_sound, chain_complete}
use Rattle.trust_archive.proofs.judgement.read_archive.Goals as goal

pub returns-clause-cause : goal.returns-clause-cause
returns-clause-cause g c =
    IfErr-weaker c.judged_chain.result _ _
    (λ e h other. chain_cause (crypto_with g.C.CryptoProvider g.M.Armor c.args.providers.now) c.args.terms.now.root.now c.args.terms.now.moment c.args.terms.now.max_delegations c.args.terms.now.path.now c.args.bytes.now (IsBytes-from_each _ (λ i. omega (arith, c.type_inv.bytes i))) e (h other) other)
    c.judged_chain.ensures.err

pub returns-clause-trusted : goal.returns-clause-trusted
returns-clause-trusted g c =
    IfOk-weaker c.judged_chain.result _ _
    (λ chain h. chain_sound (crypto_with g.C.CryptoProvider g.M.Armor c.args.providers.now) c.args.terms.now.root.now c.args.terms.now.moment c.args.terms.now.max_delegations c.args.terms.now.path.now c.args.bytes.now chain (IsBytes-from_each _ (λ i. omega (arith, c.type_inv.bytes i))) h)
    c.judged_chain.ensures.ok

pub returns-clause-refused : goal.returns-clause-refused
returns-clause-refused g c =
    IfErr-weaker c.judged_chain.result _ _
    (λ e h other chain i. no_both chain e (sym (chain_complete (crypto_with g.C.CryptoProvider g.M.Armor c.args.providers.now) c.args.terms.now.root.now c.args.terms.now.moment c.args.terms.now.max_delegations c.args.terms.now.path.now c.args.bytes.now chain i) ∙ h other))
    c.judged_chain.ensures.err
