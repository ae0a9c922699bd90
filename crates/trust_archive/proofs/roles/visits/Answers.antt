use Rattle.std.proofs.Common.{◌≡◌, Ok, Err, subst}
use Rattle.std.proofs.lemmas.Result.{IfOk-weaker, IfErr-weaker}
use Rattle.sigstore_keys.specs.Crypto.{crypto_with}
use Rattle.trust_archive.specs.Judgement.{roles_of}
use Rattle.trust_archive.proofs.roles.visits.Goals as goal

pub returns-clause-ok : goal.returns-clause-ok
returns-clause-ok g c =
    IfOk-weaker c.visits_from.result _ _
    (λ target h. subst (λ x. roles_of (crypto_with g.C.CryptoProvider g.M.Armor c.args.providers.now) c.args.terms.now.moment c.args.terms.now.path.now 0 c.args.roles.now x ≡ Ok target) (c.in_ok-search.ensures c.args.documents.now) h)
    c.visits_from.ensures.ok

pub returns-clause-err : goal.returns-clause-err
returns-clause-err g c =
    IfErr-weaker c.visits_from.result _ _
    (λ e h other. subst (λ x. roles_of (crypto_with g.C.CryptoProvider g.M.Armor c.args.providers.now) c.args.terms.now.moment c.args.terms.now.path.now 0 c.args.roles.now x ≡ Err e) (c.in_ok-search.ensures c.args.documents.now) (h other))
    c.visits_from.ensures.err
