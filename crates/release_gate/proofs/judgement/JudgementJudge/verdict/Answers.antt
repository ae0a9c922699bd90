use Rattle.std.proofs.Common.{refl, subst}
use Rattle.std.specs.Prelude.{Contains}
use Rattle.release_gate.specs.Judgement.{terms_in}
use Rattle.release_gate.specs.Reading.{ReadsBy, unsigned, signed, wanting}
use Rattle.release_gate.proofs.Verdicts.{is_there, is_unsigned}
use Rattle.release_gate.proofs.judgement.JudgementJudge.verdict.Goals as goal

pub by_file-requires-clause-listed : goal.by_file-requires-clause-listed
by_file-requires-clause-listed g c =
    is_there (g.D.Folder.seen c.args.folder.now).told c.args.names.now _ (g.met.D.Folder.lists c.args.folder.now) c.requires.listed (c.is_listed.ensures.yes c.if-is_listed.true)

pub returns-else-is_listed-clause-judges : goal.returns-else-is_listed-clause-judges
returns-else-is_listed-clause-judges g c =
    is_unsigned (terms_in g.C.CryptoProvider g.M.Armor c.args.self.now) c.args.self.now.max (g.D.Folder.seen c.args.folder.now) c.args.names.now c.args.name.now _
    (g.met.D.Folder.lists c.args.folder.now) c.requires.listed (c.is_listed.ensures.no c.if-is_listed.false) c.in_ok-bundle_name.ensures

pub returns-then-is_listed-clause-rests : goal.returns-then-is_listed-clause-rests
returns-then-is_listed-clause-rests g c =
    signed (subst (λ b. Contains c.args.names.now b) c.in_ok-bundle_name.ensures (c.is_listed.ensures.yes c.if-is_listed.true))
    (rw c.in_ok-bundle_name.ensures at c.by_file.ensures.rests)

pub returns-else-is_listed-clause-rests : goal.returns-else-is_listed-clause-rests
returns-else-is_listed-clause-rests g c =
    unsigned (λ there. c.is_listed.ensures.no c.if-is_listed.false (rw c.in_ok-bundle_name.ensures there)) refl refl
