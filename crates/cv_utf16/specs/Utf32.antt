-- UTF-32 (Unicode Standard, section 3.9, D90): the four bytes of each scalar.
use Rattle.cv_base.specs.Units.{unit_of}
use Rattle.cv_base.specs.declared.ascii_form.AsciiForm.TheVariants.{Four}
use Rattle.cv_utf16.specs.Orders.{OrderedForm}

-- the bytes of a scalar in UTF-32, in each byte order
abbrev pub utf32 : OrderedForm
utf32 endian c = unit_of (Four endian) c
