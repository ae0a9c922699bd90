use Rattle.std.proofs.Common.{map}
use Rattle.sigstore_keys.specs.Crypto.{crypto_with}
use Rattle.sigstore_policy.specs.Policy.{meaning_in}
use Rattle.release_gate.specs.Gate.{outside_by}
use Rattle.release_gate.specs.Promises.{Promises}
use Rattle.release_gate.specs.Rests.{Rests}
use Rattle.command_gate.proofs.Saying.{on_folder}
use Rattle.command_gate.proofs.judging.gate_folder.Goals as goal

pub returns-clause-promises : goal.returns-clause-promises
returns-clause-promises g c =
    let before = outside_by (g.R.Repository.seen c.args.repo.now) (g.S.MetadataStore.seen c.args.store.now) (g.D.Folder.seen c.args.folder.now) in
    let after = outside_by (g.R.Repository.seen c.gate_from_root.new.repo) (g.S.MetadataStore.seen c.gate_from_root.new.store) (g.D.Folder.seen c.gate_from_root.new.folder) in
    on_folder (λ given. Promises given before after c.gate_from_root.result) (crypto_with g.C.CryptoProvider g.M.Armor c.args.providers) (map meaning_in c.args.request.now.rules.now) c.args.request.now.root.now c.args.request.now.moment c.default.result c.default.ensures
    c.gate_from_root.ensures.promises

pub returns-clause-rests : goal.returns-clause-rests
returns-clause-rests g c =
    on_folder (λ given. Rests g.D.Folder.gave c.args.folder.now c.gate_from_root.new.folder given c.gate_from_root.result) (crypto_with g.C.CryptoProvider g.M.Armor c.args.providers) (map meaning_in c.args.request.now.rules.now) c.args.request.now.root.now c.args.request.now.moment c.default.result c.default.ensures
    c.gate_from_root.ensures.rests
