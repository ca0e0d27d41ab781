use Rattle.slice_num.proofs.Written.{fraction_out, fraction_in, writes_one, text_writes}
use Rattle.slice_num.proofs.properties.texts_write_fractions.Goals as goal

pub returns : goal.returns
returns c = record { exact = λ text q. (fraction_out text q, fraction_in text q); one = writes_one; round_trip = text_writes }
