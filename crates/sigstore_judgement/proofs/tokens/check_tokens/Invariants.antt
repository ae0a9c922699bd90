use Rattle.std.proofs.Common.{◌≡◌, [], drop}
use Rattle.std.specs.Prelude.{filter_map}
use Rattle.sigstore_keys.specs.Distinct.{each_once}
use Rattle.sigstore_judgement.specs.Entries.{behind}
use Rattle.sigstore_judgement.specs.Grounds.{grounds_by}
use Rattle.sigstore_judgement.specs.Parties.{authority_of, authorities_of}
use Rattle.sigstore_judgement.specs.Tokens.{tokens_judged_of}
use Rattle.sigstore_judgement.proofs.tokens.check_tokens.Given as goal

-- judging all is judging those that are left, behind the times and the authorities that were found
abbrev pub invariant-tokens : goal.invariant-tokens
invariant-tokens g l = record {
  times :
      tokens_judged_of (grounds_by g.C.CryptoProvider g.M.Armor l.grounds) l.signature l.tokens
      ≡ behind l.times (tokens_judged_of (grounds_by g.C.CryptoProvider g.M.Armor l.grounds) l.signature (drop l.token-index l.tokens));
  authorities :
      authorities_of (grounds_by g.C.CryptoProvider g.M.Armor l.grounds) l.signature l.tokens
      ≡ each_once l.authorities.ids (filter_map (authority_of (grounds_by g.C.CryptoProvider g.M.Armor l.grounds) l.signature) (drop l.token-index l.tokens));
}
