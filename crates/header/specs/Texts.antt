-- How a fault in front of the lists is told.
use Rattle.std.specs.Prelude.{ℕ, List, codes}
use Rattle.header.specs.declared.fault.HeaderFault.{HeaderFault}
use Rattle.header.specs.declared.fault.HeaderFault.TheVariants.{Short, Version, Range, Layout}

abbrev pub header_text : HeaderFault → List ℕ
header_text Short = codes "the image has under 60 bytes"
header_text Version = codes "the version isn't 1"
header_text Range = codes "the memory size, the depth or a count of records is out of range"
header_text Layout = codes "a list or the image's end isn't where the lists put it"
