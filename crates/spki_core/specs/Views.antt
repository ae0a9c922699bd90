-- Views as their parts.
use Rattle.std.specs.Prelude.{option_copied}
use Rattle.spki_core.specs.declared.spki.AlgorithmView.{AlgorithmView}
use Rattle.spki_core.specs.declared.spki.SpkiView.{SpkiView}
use Rattle.spki_core.specs.Spki.{Algorithm, Spki}

abbrev pub algorithm_parts : AlgorithmView → Algorithm
algorithm_parts a = record { encoded = a.encoded.now; oid = a.oid.now; parameters = option_copied a.parameters }

abbrev pub spki_parts : SpkiView → Spki
spki_parts s =
    record {
      algorithm = record { encoded = s.algorithm.now; oid = s.oid.now; parameters = option_copied s.parameters };
      unused_bits = s.unused_bits;
      key = s.key.now;
    }
