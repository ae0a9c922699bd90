-- What holds of an archive: the bytes spell a chain, and the chain is trusted.
use Rattle.std.specs.Prelude.{ℕ, List}
use Rattle.jiff_core.specs.declared.timestamp.Timestamp as jiff
use Rattle.sigstore_keys.specs.Crypto.{Crypto}
use Rattle.sigstore_tuf_rules.specs.declared.chain.TrustChain.{TrustChain}
use Rattle.sigstore_tuf_rules.specs.Trusted.{Trusted}
use Rattle.trust_archive.specs.Spelling.{IsSpelling}

pub record IsArchive (crypto : Crypto) (given : List ℕ) (now : jiff.Timestamp) (max : ℕ) (path : List ℕ) (bytes : List ℕ)
    (chain : TrustChain) : Type 0 where
  pub spelled : IsSpelling bytes chain
  pub trusted : Trusted crypto given now max path chain
