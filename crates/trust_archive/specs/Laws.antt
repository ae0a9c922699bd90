-- Laws of archives.
use Rattle.std.specs.Prelude.{◌≡◌, ℕ, List, Ok}
use Rattle.std.specs.List.{AllByRecursion}
use Rattle.jiff_core.specs.declared.timestamp.Timestamp as jiff
use Rattle.der_grammar.specs.Tlv.{IsBytes}
use Rattle.sigstore_keys.specs.Crypto.{Crypto}
use Rattle.sigstore_tuf_rules.specs.declared.chain.TrustChain.{TrustChain}
use Rattle.sigstore_tuf_rules.specs.Trusted.{Trusted}
use Rattle.trust_archive.specs.declared.archive.Archive.{Archive}
use Rattle.trust_archive.specs.Archive.{IsArchive}
use Rattle.trust_archive.specs.Judgement.{chain_of}
use Rattle.trust_archive.specs.Spelling.{HasTexts, archive_of, spelling_of}

-- bytes are an archive of one chain, whatever it is judged by
abbrev pub OneChain : Type 0
OneChain = (crypto other : Crypto) (given another : List ℕ) (now day : jiff.Timestamp) (max most : ℕ) (path bytes : List ℕ)
    (a b : TrustChain) → IsArchive crypto given now max path bytes a → IsArchive other another day most path bytes b → a ≡ b

-- what is read has one spelling
abbrev pub OneSpelling : Type 0
OneSpelling = (one two : List ℕ) (a : Archive) → IsBytes one → IsBytes two → archive_of one ≡ Ok a → archive_of two ≡ Ok a → one ≡ two

-- a trusted chain that is written is read again, where it is trusted
abbrev pub WrittenIsRead : Type 0
WrittenIsRead = (crypto : Crypto) (given : List ℕ) (now : jiff.Timestamp) (max : ℕ) (path bytes : List ℕ) (chain : TrustChain)
    → AllByRecursion HasTexts chain.roles → spelling_of chain ≡ Ok bytes → Trusted crypto given now max path chain
    → chain_of crypto given now max path bytes ≡ Ok chain
