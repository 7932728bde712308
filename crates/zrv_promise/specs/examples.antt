pub mod BytesExample
