-- Views as their parts.
use Rattle.std.specs.Prelude.{ℕ, List, Bool, option_copied}
use Rattle.x509_views.specs.declared.certificate.CertView.{CertView}
use Rattle.x509_views.specs.declared.certificate.Signed.{Signed as SignedView}
use Rattle.x509_views.specs.declared.extension.ExtensionView.{ExtensionView}
use Rattle.x509_views.specs.declared.signed.Front.{Front as FrontView}
use Rattle.x509_views.specs.declared.signed.Middle.{Middle as MiddleView}
use Rattle.x509_views.specs.declared.signed.Tail.{Tail as TailView}
use Rattle.x509_views.specs.Certificates.{Front, Middle, Tail, Signed, Certificate}
use Rattle.x509_views.specs.declared.extension.NamedExtension.{NamedExtension}
use Rattle.x509_views.specs.declared.extension.Found.{Found as FoundView}
use Rattle.x509_views.specs.Extensions.{OneExtension, Found}

abbrev pub extension_parts : NamedExtension → OneExtension
extension_parts x = record { oid = x.oid.now; critical = x.critical; value = x.value.now }

abbrev pub found_parts : FoundView → Found
found_parts p = record { from = p.from.now; extension = extension_parts p.extension; behind = p.behind.now }

abbrev pub front_parts : FrontView → Front
front_parts f = record { version = f.version; serial = f.serial.now; algorithm = f.algorithm.now; issuer = f.issuer.now }

abbrev pub middle_parts : MiddleView → Middle
middle_parts m = record { not_before = m.not_before; not_after = m.not_after; subject = m.subject.now; spki = m.spki.now }

abbrev pub tail_parts : TailView → Tail
tail_parts t = record { front = t.front.now; extensions = option_copied t.extensions }

abbrev pub signed_parts : SignedView → Signed
signed_parts s = record { front = front_parts s.front; middle = middle_parts s.middle; tail = tail_parts s.tail }

abbrev pub certificate_parts : CertView → Certificate
certificate_parts v = record {
  tbs = v.tbs.now;
  signed = record {
    front = record { version = v.version; serial = v.serial.now; algorithm = v.signature_algorithm.now; issuer = v.issuer.now };
    middle = record { not_before = v.not_before; not_after = v.not_after; subject = v.subject.now; spki = v.spki.now };
    tail = record { front = v.front.now; extensions = option_copied v.extensions };
  };
  algorithm = v.signature_algorithm.now;
  signature = v.signature.now;
}

-- whether an extension is critical, and its value
abbrev pub shown : Found → Bool × List ℕ
shown found = (found.extension.critical, found.extension.value)

abbrev pub extension_shown : ExtensionView → Bool × List ℕ
extension_shown x = (x.critical, x.value.now)
