pub mod BytesLaw
