pub mod SchemaStays
